-- All that the program `course` prints, as a function of its input.
use Rattle.std.specs.Prelude.{ℕ, false, cond, List, [], ◌∷◌, take, Some, None, Option, nat_lt}
use Rattle.bus.specs.Cell.{Cells, open_cell, missing_cell}
use Rattle.isa.specs.Law.{Table}
use Rattle.isa.specs.FirstSet.{first_set_of}
use Rattle.isa.specs.Model.{model_table, model_entry}
use Rattle.isa.specs.declared.first_set.FirstSet.{FirstSet}
use Rattle.isa.specs.declared.model.Model.{Model}
use Rattle.console.specs.First.{core_of}
use Rattle.console.specs.Lines.{lines_of}
use Rattle.console.specs.Row.{row_bytes}
use Rattle.session.specs.declared.declined.Declined.TheVariants.{NotUnderstood}
use Rattle.session.specs.Phase.{Standpoint, records, printed}
use Rattle.session.specs.Rows.{blank_row}

-- every address is open and shows 0
abbrev pub zeroed : Cells
zeroed a = cond (nat_lt a 65536) (open_cell 0) missing_cell

-- a loading board over zeroed open memory, at clock 0
abbrev pub start : {C : Type 0} → C → Standpoint C
start core = records (record { core = core; clock = 0; stage = record { ended = false }; memory = zeroed })

-- what is printed of the lines after the first one, on a core, by what its table and entry figure are
abbrev pub session_prints : {C : Type 0} → (C → Table) → (C → ℕ) → C → List (List ℕ) → List ℕ
session_prints table figure core lines = printed table figure 2 lines (start core)

-- a first line that names no core
abbrev pub refused_start : List ℕ
refused_start = row_bytes (blank_row 1 NotUnderstood)

-- the table of a core's first set
abbrev pub first_table : FirstSet Model → Table
first_table core = first_set_of (model_table core.0)

-- its cycles of entry
abbrev pub first_entry : FirstSet Model → ℕ
first_entry core = model_entry core.0

-- what is printed on the first set of the core that the first line names
abbrev pub on_core : Option Model → List (List ℕ) → List ℕ
on_core (Some model) lines = session_prints first_table first_entry (record { 0 = model }) lines
on_core None lines = refused_start

-- what is printed of some lines
abbrev pub lines_print : List (List ℕ) → List ℕ
lines_print [] = []
lines_print (first ∷ lines) = on_core (core_of first) lines

-- at most 32,768 bytes are looked at
abbrev pub course_prints : List ℕ → List ℕ
course_prints input = lines_print (lines_of (take 32768 input))
