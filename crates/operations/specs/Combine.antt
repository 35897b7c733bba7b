-- A register with an operand byte.
use Rattle.std.specs.Prelude.{ℕ}
use Rattle.isa.specs.declared.operation.Pointer.{Pointer}
use Rattle.isa.specs.declared.operation.RegisterMemory.{RegisterMemory}
use Rattle.state.specs.declared.registers.Registers.{Registers}
use Rattle.access.specs.Access.{Access, done, read}
use Rattle.effects.specs.Combine.{combined}
use Rattle.effects.specs.Pointers.{displacing}

-- the operand is read, and combined with the register
abbrev pub operand_combined : RegisterMemory → ℕ → Registers → Access Registers
operand_combined operation address r = read address (λ b. done (combined operation b r))

-- the offset is read, and added to the pointer
abbrev pub pointer_displaced : Pointer → ℕ → Registers → Access Registers
pointer_displaced pointer address r = read address (λ offset. done (displacing pointer offset r))
