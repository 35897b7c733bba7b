-- Pushes and pulls.
use Rattle.std.specs.Prelude.{◌≡◌, ℕ, Ok, Err, Result}
use Rattle.alu.specs.Addresses.{after, before}
use Rattle.isa.specs.declared.operation.StackOperation.{StackOperation}
use Rattle.isa.specs.declared.operation.StackOperation.TheVariants.{Psha, Pula, Pshx, Pulx, Pshh, Pulh}
use Rattle.state.specs.declared.registers.Registers.{Registers}
use Rattle.state.specs.Registers.{with_a, with_x, with_h, with_sp}
use Rattle.access.specs.Access.{Access, done, read, store, perform}
use Rattle.access.specs.declared.fault.Fault.{Fault}
use Rattle.bus.specs.Cell.{Cells}
use Rattle.operands.specs.declared.processor.Processor.{Processor}

-- a byte stored at SP, which then goes one place down
abbrev pub pushed : ℕ → Registers → Access Registers
pushed b r = store r.sp b (done (with_sp (before r.sp 1) r))

-- the byte one place up from SP, which then goes there
abbrev pub pulled : (ℕ → Registers → Registers) → Registers → Access Registers
pulled put r = read (after r.sp 1) (λ b. done (with_sp (after r.sp 1) (put b r)))

-- what a pull leaves: SP one place up, unless the cell there is missing
abbrev pub after_pull : Registers → Result ℕ Fault × Cells → Result ℕ Fault × Registers × Cells
after_pull r (Ok b, m) = (Ok b, with_sp (after r.sp 1) r, m)
after_pull r (Err fault, m) = (Err fault, r, m)

-- a call that pulls a byte: it leaves SP and the cells behind the processor's own references, and answers the byte
abbrev pub Pulls : {B : Type 0} → (B → Cells) → Processor B → Result ℕ Fault → Processor B → Type 0
Pulls cells old result new =
    (new.bus.ghost_name ≡ old.bus.ghost_name)
    × (new.registers.ghost_name ≡ old.registers.ghost_name)
    × ((result, new.registers.now, cells new.bus.now) ≡ after_pull old.registers.now (perform (read (after old.registers.now.sp 1) done) (cells old.bus.now)))

-- a register onto the stack, or from it; no flag changes
abbrev pub stacked : StackOperation → Registers → Access Registers
stacked Psha r = pushed r.a r
stacked Pula r = pulled (λ b s. with_a (b, s.flags) s) r
stacked Pshx r = pushed r.x r
stacked Pulx r = pulled (λ b s. with_x (b, s.flags) s) r
stacked Pshh r = pushed r.h r
stacked Pulh r = pulled (λ b s. with_h (b, s.flags) s) r
