-- The pages as they are written down.
use Rattle.std.specs.Prelude.{◌≡◌, ℕ, List, map, Some, None, Option}
use Rattle.std.specs.List.{range_with_len}
use Rattle.isa.specs.declared.cycles.Cycles.{Cycles}
use Rattle.isa.specs.declared.model.Model.{Model}
use Rattle.isa.specs.declared.operation.Operation.{Operation}
use Rattle.isa.specs.declared.row.Mode.{Mode}
use Rattle.isa.specs.declared.row.Page.{Page}
use Rattle.isa.specs.declared.row.Page.TheVariants.{First, Second}
use Rattle.isa.specs.declared.row.Row.{Row}
use Rattle.isa.specs.Cycles.{cycles_on}
use Rattle.isa.specs.Model.{model_table}

-- a place as it is written down: operation, mode, bytes and cycles, or none
abbrev pub Written : Type 0
Written = Option (Operation × Mode × ℕ × Cycles)

-- an instruction with the cycles of a core, if the core has it
abbrev pub row_costing : Operation → Mode → ℕ → Option ℕ → Option Row
row_costing operation mode bytes None = None
row_costing operation mode bytes (Some cycles) =
    Some (record { operation = operation; mode = mode; bytes = bytes; cycles = cycles })

-- the row that is written down at a place, on a core
abbrev pub row_on : Model → Written → Option Row
row_on model None = None
row_on model (Some p) = row_costing p.0 p.1 p.2 (cycles_on model p.3)

-- the rows that are written down at some places, on a core
abbrev pub rows_on : Model → List Written → List (Option Row)
rows_on model = map (row_on model)

-- the 256 rows of a page
abbrev pub listed : (ℕ → Option Row) → List (Option Row)
listed page = map page (range_with_len 0 256)

-- these are the rows of a core's page, at all 256 places
abbrev pub RowsOf : Model → Page → List Written → Type 0
RowsOf model First places = rows_on model places ≡ listed (model_table model First)
RowsOf model Second places = rows_on model places ≡ listed (model_table model Second)
