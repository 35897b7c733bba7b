-- The meaning of a memory: what each address shows, and what a store leaves.
use Rattle.std.specs.Prelude.{ℕ, cond, Ok, Err, Result, ◌==◌}
use Rattle.bus.specs.declared.cell.Class.{Class}
use Rattle.bus.specs.declared.cell.Class.TheVariants.{Open, Guarded, Missing}
use Rattle.bus.specs.declared.cell.BusRefusal.{BusRefusal}
use Rattle.bus.specs.declared.cell.BusRefusal.TheVariants.{MissingCell, GuardedCell}

-- a cell is open with the byte it shows, guarded with the byte it shows, or missing
pub data Cell : Type 0 where
  open_cell : ℕ → Cell
  guarded_cell : ℕ → Cell
  missing_cell : Cell

-- a memory means what each address shows
abbrev pub Cells : Type 0
Cells = ℕ → Cell

-- the class of a cell
abbrev pub class_of : Cell → Class
class_of (open_cell b) = Open
class_of (guarded_cell b) = Guarded
class_of missing_cell = Missing

-- the number of a refusal
abbrev pub bus_number : BusRefusal → ℕ
bus_number MissingCell = 1
bus_number GuardedCell = 2

-- reading answers the byte shown; a missing cell has none
abbrev pub read_answer : Cell → Result ℕ BusRefusal
read_answer (open_cell b) = Ok b
read_answer (guarded_cell b) = Ok b
read_answer missing_cell = Err MissingCell

-- only an open cell takes a store
abbrev pub store_answer : Cell → Result Unit BusRefusal
store_answer (open_cell b) = Ok tt
store_answer (guarded_cell b) = Err GuardedCell
store_answer missing_cell = Err MissingCell

-- what a cell shows once a byte was stored to it
abbrev pub overwritten : Cell → ℕ → Cell
overwritten (open_cell b) new = open_cell new
overwritten (guarded_cell b) new = guarded_cell b
overwritten missing_cell new = missing_cell

-- the memory once a byte was stored at an address: every other cell keeps
abbrev pub stored : Cells → ℕ → ℕ → Cells
stored cells address new a = cond (a == address) (overwritten (cells a) new) (cells a)
