-- Decimal adjustment: a sum of two bytes that each hold two decimal digits, made two decimal digits again.
use Rattle.std.specs.Prelude.{◌≡◌, ℕ, ◌+◌, ◌*◌, ◌/◌, ◌%◌, ◌<◌, Bool, ◌||◌, nat_lt}
use Rattle.alu.specs.declared.flags.Flags.{Flags}
use Rattle.alu.specs.Flags.{bit, with_c, with_nz}
use Rattle.alu.specs.Sums.{sum_of}

-- whether the low digit is to be adjusted: it is above 9, or the sum had a half carry
abbrev pub low_adjusted : ℕ → Flags → Bool
low_adjusted a f = nat_lt 9 (a % 16) || f.h

-- whether the high digit is to be adjusted: the digits are above 99, or the sum had a carry
abbrev pub high_adjusted : ℕ → Flags → Bool
high_adjusted a f = nat_lt 0x99 a || f.c

-- the byte with 6 added to each digit that is to be adjusted
abbrev pub adjusted : ℕ → Flags → ℕ
adjusted a f = (a + 6 * bit (low_adjusted a f) + 0x60 * bit (high_adjusted a f)) % 256

-- the adjusted byte, with C: the high digit was adjusted
abbrev pub decimal_adjust_of : ℕ → Flags → ℕ × Flags
decimal_adjust_of a f = (adjusted a f, with_c (high_adjusted a f) (with_nz 8 (adjusted a f) f))

-- a byte holds two decimal digits
abbrev pub TwoDigits : ℕ → Type 0
TwoDigits b = (b / 16 < 10) × (b % 16 < 10)

-- the number that two decimal digits show
abbrev pub decimal_value : ℕ → ℕ
decimal_value b = 10 * (b / 16) + b % 16

-- the answer's digits, with C for a hundred, show a decimal sum: that of each two bytes of digits whose sum the byte was
abbrev pub DecimalSum : ℕ × Flags → ℕ × Flags → Type 0
DecimalSum before after =
    (x y : ℕ) (carry : Bool) (f : Flags)
    → TwoDigits x
    → TwoDigits y
    → before ≡ sum_of x y carry f
    → TwoDigits after.0 × (100 * bit after.1.c + decimal_value after.0 ≡ decimal_value x + decimal_value y + bit carry)
