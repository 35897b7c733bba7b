-- What is done to one byte.
use Rattle.std.specs.Prelude.{ℕ, ◌+◌, ◌-◌, ◌*◌, ◌/◌, ◌%◌, true, not, ◌==◌}
use Rattle.alu.specs.declared.flags.Flags.{Flags}
use Rattle.alu.specs.Flags.{with_v, with_c, with_nz}
use Rattle.alu.specs.Logic.{test_of}

-- one more, with V: the byte was 127, the greatest signed byte
abbrev pub increment_of : ℕ → Flags → ℕ × Flags
increment_of b f = ((b + 1) % 256, with_v (b == 127) (with_nz 8 ((b + 1) % 256) f))

-- one less, with V: the byte was 128, the least signed byte
abbrev pub decrement_of : ℕ → Flags → ℕ × Flags
decrement_of b f = ((b + 255) % 256, with_v (b == 128) (with_nz 8 ((b + 255) % 256) f))

-- the byte taken from 0
abbrev pub negation : ℕ → ℕ
negation b = (256 - b) % 256

-- the negation, with V: it is 128, since -128 has no negative; C: it is not 0, since all but 0 borrow
abbrev pub negate_of : ℕ → Flags → ℕ × Flags
negate_of b f =
    (negation b, with_v (negation b == 128) (with_c (not (negation b == 0)) (with_nz 8 (negation b) f)))

-- every bit turned, with V clear and C set
abbrev pub complement_of : ℕ → Flags → ℕ × Flags
complement_of b f = test_of 8 (255 - b) (with_c true f)

-- 0 in the place of the byte, with V clear
abbrev pub clear_of : Flags → ℕ × Flags
clear_of f = test_of 8 0 f

-- the two halves of a byte change places
abbrev pub swapped : ℕ → ℕ
swapped b = 16 * (b % 16) + b / 16
