-- What a board shows: its core, its clock, its stage and its cells.
use Rattle.std.specs.Prelude.{ℕ}
use Rattle.bus.specs.Cell.{Cells}
use Rattle.board.specs.declared.board.Board.{Board}

-- a board's situation
pub record Situation (C S : Type 0) : Type 0 where
  pub core : C
  pub clock : ℕ
  pub stage : S
  pub memory : Cells

-- the situation of a board, by the meaning of its memory
abbrev pub situation : {B C S : Type 0} → (B → Cells) → Board B C S → Situation C S
situation cells b = record { core = b.core; clock = b.clock; stage = b.stage; memory = cells b.bus }

-- the clock's limit
abbrev pub clock_limit : ℕ
clock_limit = 1000000000000000000
