-- What an instruction leaves of the registers.
use Rattle.std.specs.Prelude.{◌≡◌, ℕ, Ok, Err, Result}
use Rattle.bus.specs.Cell.{Cells}
use Rattle.access.specs.declared.fault.Fault.{Fault}
use Rattle.access.specs.Access.{Access, done, store, perform}
use Rattle.state.specs.declared.registers.Registers.{Registers}
use Rattle.state.specs.Registers.{tested}
use Rattle.operands.specs.declared.processor.Processor.{Processor}

-- the registers become what the accesses answer; a fault leaves them as they were
abbrev pub leaves : {X : Type 0} → X → Result X Fault × Cells → Result Unit Fault × X × Cells
leaves old (Ok new, m) = (Ok tt, new, m)
leaves old (Err fault, m) = (Err fault, old, m)

-- a call that carries out the accesses that the registers ask for: it leaves their answer behind the processor's own references
abbrev pub Performs : {B : Type 0} → (B → Cells) → (Registers → Access Registers) → Processor B → Result Unit Fault → Processor B → Type 0
Performs cells accesses old result new =
    (new.bus.ghost_name ≡ old.bus.ghost_name)
    × (new.registers.ghost_name ≡ old.registers.ghost_name)
    × ((result, new.registers.now, cells new.bus.now) ≡ leaves old.registers.now (perform (accesses old.registers.now) (cells old.bus.now)))

-- a byte is stored, and tested
abbrev pub stored_and_tested : ℕ → ℕ → Registers → Access Registers
stored_and_tested address b r = store address b (done (tested 8 b r))
