-- CBEQ, once its operand was read.
use Rattle.std.specs.Prelude.{ℕ, ◌==◌}
use Rattle.isa.specs.declared.row.Mode.{Mode}
use Rattle.state.specs.declared.registers.Registers.{Registers}
use Rattle.effects.specs.Branch.{branched_by}
use Rattle.effects.specs.Pointers.{went_on}

-- H:X goes on in the modes that say so, and the branch is taken where A equals the byte
abbrev pub branched_where_a : ℕ → ℕ → Mode → Registers → Registers
branched_where_a b offset mode r = branched_by (r.a == b) offset (went_on mode r)
