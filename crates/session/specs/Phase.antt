-- A session, line by line.
use Rattle.std.specs.Prelude.{ℕ, ◌+◌, cond, List, [], ◌∷◌, ◌++◌, Ok, Err, Result}
use Rattle.bus.specs.Cell.{Cells}
use Rattle.isa.specs.Law.{Table}
use Rattle.board.specs.declared.refusal.Refusal.{Refusal}
use Rattle.state.specs.declared.live.Live.{Live}
use Rattle.board.specs.declared.stages.Loading.{Loading}
use Rattle.board.specs.Loading.{line_given}
use Rattle.board.specs.Ready.{reset_of}
use Rattle.board.specs.Situation.{Situation, situation}
use Rattle.console.specs.Row.{row_bytes}
use Rattle.session.specs.declared.declined.Declined.TheVariants.{ByBoard}
use Rattle.session.specs.declared.phase.Phase.{Phase}
use Rattle.session.specs.declared.phase.Phase.TheVariants.{Records, Orders}
use Rattle.session.specs.Orders.{order_line}
use Rattle.session.specs.Rows.{blank_row}

-- where a session stands: it takes records, or orders
pub data Standpoint (C : Type 0) : Type 0 where
  records : Situation C Loading → Standpoint C
  orders : Situation C Live → Standpoint C

-- where a phase of the program stands
abbrev pub shown : {B C : Type 0} → (B → Cells) → Phase B C → Standpoint C
shown cells (Records board) = records (situation cells board)
shown cells (Orders board) = orders (situation cells board)

-- what is printed of a line, and where the session then stands
abbrev pub Said : Type 0 → Type 0
Said C = List ℕ × Standpoint C

-- an image that has ended is closed and the board is reset
abbrev pub closing : {C : Type 0} → Situation C Loading → Standpoint C
closing s = cond s.stage.ended (orders (reset_of (record { core = s.core; clock = s.clock; stage = record {}; memory = s.memory }))) (records s)

-- a record line that was taken prints nothing, a refused one its row
abbrev pub record_answered : {C : Type 0} → ℕ → Result Unit Refusal × Situation C Loading → Said C
record_answered number (Ok done, s) = ([], closing s)
record_answered number (Err refusal, s) = (row_bytes (blank_row number (ByBoard refusal)), records s)

-- a record line
abbrev pub record_line : {C : Type 0} → ℕ → List ℕ → Situation C Loading → Said C
record_line number line s = record_answered number (line_given s line)

-- an order prints its row
abbrev pub order_answered : {C : Type 0} → List ℕ × Situation C Live → Said C
order_answered p = (p.0, orders p.1)

-- a line, by where the session stands
abbrev pub line_said : {C : Type 0} → (C → Table) → (C → ℕ) → ℕ → List ℕ → Standpoint C → Said C
line_said table figure number line (records s) = record_line number line s
line_said table figure number line (orders s) = order_answered (order_line table figure number line s)

-- all that is printed of some lines, numbered from a number on
abbrev pub printed : {C : Type 0} → (C → Table) → (C → ℕ) → ℕ → List (List ℕ) → Standpoint C → List ℕ
printed table figure number [] at = []
printed table figure number (line ∷ lines) at =
    (line_said table figure number line at).0 ++ printed table figure (number + 1) lines (line_said table figure number line at).1
