-- CBEQ, CBEQA and CBEQX.
use Rattle.std.specs.Prelude.{ℕ, eqb}
use Rattle.alu.specs.Addresses.{after}
use Rattle.isa.specs.declared.operation.CompareBranch.{CompareBranch}
use Rattle.isa.specs.declared.operation.CompareBranch.TheVariants.{Cbeq, Cbeqa, Cbeqx}
use Rattle.state.specs.declared.registers.Registers.{Registers}
use Rattle.access.specs.Access.{Access, done, read}
use Rattle.effects.specs.Branch.{branched_by}
use Rattle.effects.specs.Compare.{branched_where_a}
use Rattle.operands.specs.declared.address.Operand.{Operand}
use Rattle.operands.specs.Address.{behind}

-- a register against the byte after the opcode, which the offset follows
abbrev pub compared_immediate : ℕ → Operand → Registers → Access Registers
compared_immediate register operand r =
    read operand.bytes (λ b. read (after operand.bytes 1) (λ offset. done (branched_by (eqb register b) offset r)))

-- A against the operand in memory, which is read after the offset
abbrev pub compared_operand : Operand → Registers → Access Registers
compared_operand operand r =
    read (behind operand) (λ offset.
    read operand.address (λ b. done (branched_where_a b offset operand.mode r)))

-- a branch where the two are equal; no flag changes
abbrev pub branched_where_equal : CompareBranch → Operand → Registers → Access Registers
branched_where_equal Cbeq operand r = compared_operand operand r
branched_where_equal Cbeqa operand r = compared_immediate r.a operand r
branched_where_equal Cbeqx operand r = compared_immediate r.x operand r
