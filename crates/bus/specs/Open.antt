-- The open memory: what its bytes show.
use Rattle.std.specs.Prelude.{ℕ, cond, List, length, nat_lt, slice_index, slice_set}
use Rattle.bus.specs.Cell.{Cells, open_cell, missing_cell}

-- the bytes once one was stored; an address past their end changes nothing
abbrev pub open_stored : List ℕ → ℕ → ℕ → List ℕ
open_stored bytes address new = cond (nat_lt address (length bytes)) (slice_set bytes address new) bytes

-- addresses run from 0 to 65,535; below the number of bytes a cell is open and shows its byte, others are missing
abbrev pub open_cells : List ℕ → Cells
open_cells bytes a = cond (nat_lt a 65536) (cond (nat_lt a (length bytes)) (open_cell (slice_index bytes a)) missing_cell) missing_cell
