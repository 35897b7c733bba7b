-- DBNZ.
use Rattle.std.specs.Prelude.{not, ℕ, ◌+◌, ◌%◌, eqb}
use Rattle.state.specs.declared.registers.Registers.{Registers}
use Rattle.state.specs.Registers.{with_a, with_x}
use Rattle.access.specs.Access.{Access, done, read, store, ◌>>=◌}
use Rattle.effects.specs.Branch.{branched_by}
use Rattle.operands.specs.declared.address.Operand.{Operand}
use Rattle.operands.specs.declared.address.Home.{Home}
use Rattle.operands.specs.declared.address.Home.TheVariants.{Accumulator, Index, Memory}
use Rattle.operands.specs.Address.{home_of, behind}

-- one less than a byte
abbrev pub less : ℕ → ℕ
less b = (b + 255) % 256

-- a branch where something is left
abbrev pub until_zero : ℕ → ℕ → Registers → Registers
until_zero left offset r = branched_by (not (eqb left 0)) offset r

-- the byte at an address becomes 1 less, which is answered
abbrev pub cell_counted_down : ℕ → Access ℕ
cell_counted_down address = read address (λ b. store address (less b) (done (less b)))

-- A, X or the byte at an address, less 1; no flag changes
abbrev pub counted : Home → ℕ → ℕ → Registers → Access Registers
counted Accumulator address offset r = done (until_zero (less r.a) offset (with_a (less r.a, r.flags) r))
counted Index address offset r = done (until_zero (less r.x) offset (with_x (less r.x, r.flags) r))
counted Memory address offset r = cell_counted_down address >>= (λ left. done (until_zero left offset r))

-- the offset is read before the operand
abbrev pub decremented : Operand → Registers → Access Registers
decremented operand r =
    read (behind operand) (λ offset. counted (home_of operand.mode) operand.address offset r)
