-- Sums and differences, and the flags they give.
use Rattle.std.specs.Prelude.{◌≡◌, ℕ, ◌+◌, ◌-◌, ◌%◌, ◌^◌, Bool, cond, not, ◌&&◌, ℤ, pos, ◌+ℤ◌, ◌-ℤ◌, neg_ℤ, ◌==◌, int_le, int_lt, nat_le, nat_lt}
use Rattle.alu.specs.declared.flags.Flags.{Flags}
use Rattle.alu.specs.Flags.{bit, unlike, with_v, with_h, with_c, with_nz}

-- the signed value of a number of w bits
abbrev pub signed_value : ℕ → ℕ → ℤ
signed_value w number = cond (nat_lt number (2 ^ (w - 1))) (pos number) (pos number -ℤ pos (2 ^ w))

-- whether an integer is the signed value of a number of w bits
abbrev pub fits_in : ℕ → ℤ → Bool
fits_in w integer = int_le (neg_ℤ (pos (2 ^ (w - 1)))) integer && int_lt integer (pos (2 ^ (w - 1)))

-- the sum of two bytes and a carry
abbrev pub byte_sum : ℕ → ℕ → Bool → ℕ
byte_sum a b carry = (a + b + bit carry) % 256

-- the sum, with V: the signed sum does not fit; H: a carry from bit 3; C: a carry from bit 7
abbrev pub sum_of : ℕ → ℕ → Bool → Flags → ℕ × Flags
sum_of a b carry f = (
  byte_sum a b carry,
  with_v
      (not (fits_in 8 (signed_value 8 a +ℤ signed_value 8 b +ℤ pos (bit carry))))
      (with_h (nat_le 16 (a % 16 + b % 16 + bit carry)) (with_c (nat_le 256 (a + b + bit carry)) (with_nz 8 (byte_sum a b carry) f))),
)

-- the difference of two numbers of w bits, less a borrow
abbrev pub difference : ℕ → ℕ → ℕ → Bool → ℕ
difference w a b borrow = (2 ^ w + a - (b + bit borrow)) % 2 ^ w

-- whether the signed difference, less the borrow, does not fit
abbrev pub difference_overflows : ℕ → ℕ → ℕ → Bool → Bool
difference_overflows w a b borrow = not (fits_in w (signed_value w a -ℤ signed_value w b -ℤ pos (bit borrow)))

-- the difference, with V: the signed difference does not fit; C: a borrow
abbrev pub difference_of : ℕ → ℕ → ℕ → Bool → Flags → ℕ × Flags
difference_of w a b borrow f = (
  difference w a b borrow,
  with_v
      (difference_overflows w a b borrow)
      (with_c (nat_lt a (b + bit borrow)) (with_nz w (difference w a b borrow) f)),
)

-- the flags order two numbers of w bits: C, the first is below the second; Z, they are equal;
-- N and V differ, the signed value of the first is below that of the second
pub record Compared (w a b : ℕ) (f : Flags) : Type 0 where
  pub below : f.c ≡ nat_lt a b
  pub equal : f.z ≡ (a == b)
  pub signed_below : unlike f.n f.v ≡ int_lt (signed_value w a) (signed_value w b)
