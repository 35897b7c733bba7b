-- What an instruction costs on each core.
use Rattle.std.specs.Prelude.{ℕ, Some, None, Option}
use Rattle.isa.specs.declared.cycles.Cycles.{Cycles}
use Rattle.isa.specs.declared.cycles.Cycles.TheVariants.{Both, Each, Hcs08Only}
use Rattle.isa.specs.declared.model.Model.{Model}
use Rattle.isa.specs.declared.model.Model.TheVariants.{Cpu08, Hcs08}

-- the cycles on a core, or none where the core lacks the instruction
abbrev pub cycles_on : Model → Cycles → Option ℕ
cycles_on Cpu08 (Both cycles) = Some cycles
cycles_on Hcs08 (Both cycles) = Some cycles
cycles_on Cpu08 (Each cpu08 hcs08) = Some cpu08
cycles_on Hcs08 (Each cpu08 hcs08) = Some hcs08
cycles_on Cpu08 (Hcs08Only cycles) = None
cycles_on Hcs08 (Hcs08Only cycles) = Some cycles
