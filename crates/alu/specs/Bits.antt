-- Single bits of a number of w bits, counted from the lowest.
use Rattle.std.specs.Prelude.{ℕ, ◌-◌, ◌^◌, Bool, false, cond, bit_and, bit_or, nat_lt}
use Rattle.alu.specs.Flags.{bit_at}

-- whether bit k is set; past the width there is none
abbrev pub bit_of : ℕ → ℕ → ℕ → Bool
bit_of w number k = cond (nat_lt k w) (bit_at k number) false

-- the number with bit k set
abbrev pub with_bit : ℕ → ℕ → ℕ → ℕ
with_bit w number k = cond (nat_lt k w) (bit_or number (2 ^ k)) number

-- the number with bit k clear
abbrev pub without_bit : ℕ → ℕ → ℕ → ℕ
without_bit w number k = cond (nat_lt k w) (bit_and number (2 ^ w - 1 - 2 ^ k)) number
