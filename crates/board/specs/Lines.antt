-- Raising and dropping a line of a live board.
use Rattle.std.specs.Prelude.{ℕ, Bool, cond, ◌&&◌, Ok, Err, Result, nat_le}
use Rattle.board.specs.declared.refusal.Refusal.{Refusal}
use Rattle.board.specs.declared.refusal.Refusal.TheVariants.{NoSuchLine}
use Rattle.state.specs.declared.live.Live.{Live}
use Rattle.board.specs.Situation.{Situation}

-- lines are numbered from 2 to 31
abbrev pub line_exists : ℕ → Bool
line_exists line = nat_le 2 line && nat_le line 31

-- the situation with another set of lines
abbrev pub with_lines : {C : Type 0} → ℕ → Situation C Live → Situation C Live
with_lines lines s = record s { stage = record s.stage { lines = lines } }

-- a line set one way or the other, or refused
abbrev pub line_set : {C : Type 0} → (ℕ → ℕ → ℕ) → ℕ → Situation C Live → Result Unit Refusal × Situation C Live
line_set change line s = cond (line_exists line) (Ok tt, with_lines (change s.stage.lines line) s) (Err NoSuchLine, s)
