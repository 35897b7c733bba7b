-- From the opcode to its row.
use Rattle.std.specs.Prelude.{ℕ, cond, Some, None, Ok, Err, Option, Result, ◌==◌}
use Rattle.alu.specs.Addresses.{after}
use Rattle.isa.specs.Law.{Table}
use Rattle.isa.specs.declared.row.Page.TheVariants.{First, Second}
use Rattle.isa.specs.declared.row.Row.{Row}
use Rattle.access.specs.declared.fault.Fault.{Fault}
use Rattle.access.specs.declared.fault.Fault.TheVariants.{NoInstruction}
use Rattle.machine.specs.declared.decode.Decoded.{Decoded}
use Rattle.access.specs.Access.{Access, read, answered}

-- a place of the table: its row with the address of the first operand byte, or no instruction
abbrev pub row_found : Option Row → ℕ → Result Decoded Fault
row_found (Some row) operand = Ok (record { row = row; operand = operand })
row_found None operand = Err NoInstruction

-- the opcode is read, and behind $9E the opcode of the second page
abbrev pub decoded : Table → ℕ → Access Decoded
decoded table pc =
    read pc (λ opcode.
    cond
    (opcode == 0x9E)
    (read (after pc 1) (λ second. answered (row_found (table Second second) (after pc 2))))
    (answered (row_found (table First opcode) (after pc 1))))
