-- The rows of a session.
use Rattle.std.specs.Prelude.{ℕ, List, [], Some, None, Option, Ok, Err, Result}
use Rattle.alu.specs.Flags.{ccr_byte}
use Rattle.alu.specs.Words.{word_of}
use Rattle.console.specs.declared.row.RegisterRow.{RegisterRow}
use Rattle.console.specs.Row.{row_bytes}
use Rattle.state.specs.declared.registers.Registers.{Registers}
use Rattle.session.specs.declared.declined.Declined.{Declined}
use Rattle.session.specs.declared.rows.Ran.{Ran}
use Rattle.session.specs.Declined.{declined_number}

-- before reset all but line and refusal are 0
abbrev pub blank_row : ℕ → Declined → RegisterRow
blank_row line declined =
    record { line = line; steps = 0; cycles = 0; refusal = declined_number declined; pc = 0; a = 0; hx = 0; sp = 0; ccr = 0 }

-- the steps, the cycles and the number that a row shows of an order; a declined one took no step
abbrev pub told : Result Ran Declined → ℕ × ℕ × ℕ
told (Ok ran) = (ran.steps, ran.cycles, ran.ended)
told (Err declined) = (0, 0, declined_number declined)

-- what an order took, and the registers as they then stand
abbrev pub register_row : ℕ → Result Ran Declined → Registers → RegisterRow
register_row line obeyed r =
    record { line = line; steps = (told obeyed).0; cycles = (told obeyed).1; refusal = (told obeyed).2; pc = r.pc; a = r.a; hx = word_of r.h r.x; sp = r.sp; ccr = ccr_byte r.flags }

-- what is printed of a line, by its row
abbrev pub printed_row : Option RegisterRow → List ℕ
printed_row None = []
printed_row (Some row) = row_bytes row
