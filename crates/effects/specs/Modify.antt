-- A byte read, changed and put back.
use Rattle.std.specs.Prelude.{ℕ}
use Rattle.alu.specs.declared.flags.Flags.{Flags}
use Rattle.alu.specs.Logic.{test_of}
use Rattle.alu.specs.Shifts.{shift_left_of, shift_right_of, arithmetic_shift_right_of, rotate_left_of, rotate_right_of}
use Rattle.alu.specs.Unary.{negate_of, complement_of, increment_of, decrement_of, clear_of}
use Rattle.isa.specs.declared.operation.ReadModifyWrite.{ReadModifyWrite}
use Rattle.isa.specs.declared.operation.ReadModifyWrite.TheVariants.{Neg, Com, Lsr, Ror, Asr, Lsl, Rol, Dec, Inc, Tst, Clr}

-- the byte and the flags that each operation leaves
abbrev pub modified : ReadModifyWrite → ℕ → Flags → ℕ × Flags
modified Neg b f = negate_of b f
modified Com b f = complement_of b f
modified Lsr b f = shift_right_of b f
modified Ror b f = rotate_right_of b f
modified Asr b f = arithmetic_shift_right_of b f
modified Lsl b f = shift_left_of b f
modified Rol b f = rotate_left_of b f
modified Dec b f = decrement_of b f
modified Inc b f = increment_of b f
modified Tst b f = test_of 8 b f
modified Clr b f = clear_of f
