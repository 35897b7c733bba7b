-- Shifts and rotations of a byte by one bit.
use Rattle.std.specs.Prelude.{ℕ, ◌+◌, ◌*◌, ◌/◌, ◌%◌, Bool}
use Rattle.alu.specs.declared.flags.Flags.{Flags}
use Rattle.alu.specs.Flags.{bit, bit_at, unlike, with_v, with_c, with_nz}

-- what a shift leaves: C is the bit shifted out, and V is set where N and C differ
abbrev pub shift_of : ℕ → Bool → Flags → ℕ × Flags
shift_of result out f = (result, with_v (unlike (bit_at 7 result) out) (with_c out (with_nz 8 result f)))

-- to the left, with a 0 from the right
abbrev pub shift_left_of : ℕ → Flags → ℕ × Flags
shift_left_of b f = shift_of (2 * b % 256) (bit_at 7 b) f

-- to the left, with C from the right
abbrev pub rotate_left_of : ℕ → Flags → ℕ × Flags
rotate_left_of b f = shift_of (2 * b % 256 + bit f.c) (bit_at 7 b) f

-- to the right, with a 0 from the left
abbrev pub shift_right_of : ℕ → Flags → ℕ × Flags
shift_right_of b f = shift_of (b / 2) (bit_at 0 b) f

-- to the right, with C from the left
abbrev pub rotate_right_of : ℕ → Flags → ℕ × Flags
rotate_right_of b f = shift_of (128 * bit f.c + b / 2) (bit_at 0 b) f

-- to the right, with the sign from the left
abbrev pub arithmetic_shift_right_of : ℕ → Flags → ℕ × Flags
arithmetic_shift_right_of b f = shift_of (b / 128 * 128 + b / 2) (bit_at 0 b) f
