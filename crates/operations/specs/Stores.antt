-- STA and STX.
use Rattle.std.specs.Prelude.{ℕ}
use Rattle.isa.specs.declared.operation.RegisterStore.{RegisterStore}
use Rattle.isa.specs.declared.operation.RegisterStore.TheVariants.{Sta, Stx}
use Rattle.state.specs.declared.registers.Registers.{Registers}
use Rattle.access.specs.Access.{Access}
use Rattle.operands.specs.Leaves.{stored_and_tested}

-- the byte that is stored
abbrev pub stored_byte : RegisterStore → Registers → ℕ
stored_byte Sta r = r.a
stored_byte Stx r = r.x

-- the register is stored, and tested
abbrev pub register_stored : RegisterStore → ℕ → Registers → Access Registers
register_stored operation address r =
    stored_and_tested address (stored_byte operation r) r
