-- What binds every core.
use Rattle.std.specs.Prelude.{◌≡◌, ℕ, ◌+◌, ◌≤◌, ◌⊎◌, Some, Option}
use Rattle.isa.specs.declared.operation.Operation.{Operation}
use Rattle.isa.specs.declared.row.Mode.{Mode}
use Rattle.isa.specs.declared.row.Page.{Page}
use Rattle.isa.specs.declared.row.Row.{Row}
use Rattle.isa.specs.Maps.{cpu08_map, hcs08_map, operand_bytes, prefix_bytes}

-- a table gives each opcode of each page its row, or none
abbrev pub Table : Type 0
Table = Page → ℕ → Option Row

-- the operation has that mode in one of the two maps
abbrev pub Occurs : Operation → Mode → Type 0
Occurs operation mode =
    (page : Page) × (opcode : ℕ) × ((cpu08_map page opcode ≡ Some (operation, mode)) ⊎ (hcs08_map page opcode ≡ Some (operation, mode)))

-- a figure of cycles is from 1 to 20
pub record LawfulFigure (cycles : ℕ) : Type 0 where
  pub least : 1 ≤ cycles
  pub most : cycles ≤ 20

-- a row is bound to the maps, to its operand bytes and to the range of cycles
pub record LawfulRow (page : Page) (row : Row) : Type 0 where
  pub mapped : Occurs row.operation row.mode
  pub counted : row.bytes ≡ 1 + prefix_bytes page + operand_bytes row.operation row.mode
  pub timed : LawfulFigure row.cycles
