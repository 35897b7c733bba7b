-- Hexadecimal digits, and the bytes that pairs of them spell.
use Rattle.std.specs.Prelude.{ℕ, ◌+◌, ◌-◌, ◌*◌, Bool, cond, ◌&&◌, List, [], ◌∷◌, is_some, Some, None, Ok, Err, Option, Result, nat_le, slice_index}
use Rattle.std.specs.List.{list_all}
use Rattle.srecord.specs.declared.refusal.LineRefusal.{LineRefusal}
use Rattle.srecord.specs.declared.refusal.LineRefusal.TheVariants.{NotHexadecimal}

-- whether a character is one of those from a first to a last
abbrev pub among : ℕ → ℕ → ℕ → Bool
among first last c = nat_le first c && nat_le c last

-- the value of a hexadecimal digit: `0` to `9`, `A` to `F` and `a` to `f`
abbrev pub digit_of : ℕ → Option ℕ
digit_of c = cond (among 48 57 c) (Some (c - 48)) (cond (among 65 70 c) (Some (c - 65 + 10)) (cond (among 97 102 c) (Some (c - 97 + 10)) None))

-- the same as a number; a character that is no digit counts 0
abbrev pub value_of : ℕ → ℕ
value_of c = elim (digit_of c) [ Some value ↦ value | None ↦ 0 ]

-- whether each character is a hexadecimal digit
abbrev pub all_digits : List ℕ → Bool
all_digits cs = list_all (λ c. is_some (digit_of c)) cs

-- the byte that two digits spell, the high one first
abbrev pub byte_of : ℕ → ℕ → ℕ
byte_of high low = 16 * value_of high + value_of low

-- reading a byte: both characters have to be digits
abbrev pub pair_of : ℕ → ℕ → Result ℕ LineRefusal
pair_of high low = cond (is_some (digit_of high) && is_some (digit_of low)) (Ok (byte_of high low)) (Err NotHexadecimal)

-- byte `n` that digits spell, counted from 0
abbrev pub byte_at : List ℕ → ℕ → ℕ
byte_at digits n = byte_of (slice_index digits (2 * n)) (slice_index digits (2 * n + 1))

-- the bytes that digits spell, in order
abbrev pub bytes_of : List ℕ → List ℕ
bytes_of [] = []
bytes_of (c ∷ []) = []
bytes_of (high ∷ low ∷ cs) = byte_of high low ∷ bytes_of cs

-- the address that four digits spell
abbrev pub address_of : List ℕ → ℕ
address_of digits = 256 * byte_at digits 0 + byte_at digits 1
