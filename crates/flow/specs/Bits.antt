-- BRSET and BRCLR.
use Rattle.isa.specs.declared.operation.BitBranch.{BitBranch}
use Rattle.state.specs.declared.registers.Registers.{Registers}
use Rattle.access.specs.Access.{Access, done, read}
use Rattle.effects.specs.Bits.{branched_on}
use Rattle.operands.specs.declared.address.Operand.{Operand}
use Rattle.operands.specs.Address.{behind}

-- the offset is read, then the byte
abbrev pub bit_tested : BitBranch → Operand → Registers → Access Registers
bit_tested branch operand r =
    read (behind operand) (λ offset. read operand.address (λ b. done (branched_on branch b offset r)))
