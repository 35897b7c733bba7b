-- A core that is chosen while the program runs.
use Rattle.std.specs.Prelude.{ℕ}
use Rattle.isa.specs.declared.model.Model.{Model}
use Rattle.isa.specs.declared.model.Model.TheVariants.{Cpu08, Hcs08}
use Rattle.isa.specs.Law.{Table}
use Rattle.isa.specs.Tables.{cpu08_table, cpu08_entry, hcs08_table, hcs08_entry}

-- the table of the chosen core
abbrev pub model_table : Model → Table
model_table Cpu08 = cpu08_table
model_table Hcs08 = hcs08_table

-- its cycles of entry
abbrev pub model_entry : Model → ℕ
model_entry Cpu08 = cpu08_entry
model_entry Hcs08 = hcs08_entry
