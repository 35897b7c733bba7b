-- From flags to the condition code byte and back.
use Rattle.std.proofs.Common.{◌≡◌, ℕ, ◌/◌, ◌%◌, ◌≤◌, Bool, true, false, eqb, refl, ap, arith, lit≤}
use mir.Val.{bool_byte}
use Rattle.alu.specs.declared.flags.Flags.{Flags}
use Rattle.alu.specs.Flags.{bit, ccr_byte, ccr_flags}

-- a flag is 0 or 1
pub bit_small : (b : Bool) → bit b ≤ 1
bit_small true = lit≤ tt
bit_small false = lit≤ tt

-- the byte of a flag is its number
pub flag_byte : (b : Bool) → bool_byte b ≡ bit b
flag_byte true = refl
flag_byte false = refl

-- the number of a flag tells the flag
bit_tells : (b : Bool) (n : ℕ) → n ≡ bit b → eqb n 1 ≡ b
bit_tells true n h = ap (λ m. eqb m 1) h
bit_tells false n h = ap (λ m. eqb m 1) h

-- the byte of some flags holds those flags
pub flags_back : (f : Flags) → ccr_flags (ccr_byte f) ≡ f
flags_back f =
    let v = bit_small f.v in
    let h = bit_small f.h in
    let i = bit_small f.i in
    let n = bit_small f.n in
    let z = bit_small f.z in
    let c = bit_small f.c in
    λ k. record {
      v = bit_tells f.v (ccr_byte f / 128 % 2) (omega arith) k;
      h = bit_tells f.h (ccr_byte f / 16 % 2) (omega arith) k;
      i = bit_tells f.i (ccr_byte f / 8 % 2) (omega arith) k;
      n = bit_tells f.n (ccr_byte f / 4 % 2) (omega arith) k;
      z = bit_tells f.z (ccr_byte f / 2 % 2) (omega arith) k;
      c = bit_tells f.c (ccr_byte f / 1 % 2) (omega arith) k;
    }
