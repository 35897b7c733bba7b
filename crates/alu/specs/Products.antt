-- Products and quotients.
use Rattle.std.specs.Prelude.{ℕ, ◌*◌, ◌/◌, ◌%◌, true, false, cond, ◌==◌, nat_lt}
use Rattle.alu.specs.declared.flags.Flags.{Flags}
use Rattle.alu.specs.Flags.{with_h, with_z, with_c}
use Rattle.alu.specs.Words.{word_of}

-- the product of two bytes, its high byte first, with H and C clear
abbrev pub multiply_of : ℕ → ℕ → Flags → (ℕ × ℕ) × Flags
multiply_of x a f = ((x * a / 256, x * a % 256), with_h false (with_c false f))

-- the quotient of a word h:a by x, then the remainder, with Z of the quotient and C clear;
-- where h is not below x the quotient does not fit a byte: a and h stay, and C is set
abbrev pub divide_of : ℕ → ℕ → ℕ → Flags → (ℕ × ℕ) × Flags
divide_of h a x f =
    cond
    (nat_lt h x)
    ((word_of h a / x, word_of h a % x), with_z (word_of h a / x == 0) (with_c false f))
    ((a, h), with_c true f)
