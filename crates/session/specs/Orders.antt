-- Orders given to a live board.
use Rattle.std.specs.Prelude.{ℕ, List, Some, None, Ok, Err, Option, Result}
use Rattle.isa.specs.Law.{Table}
use Rattle.state.specs.Lines.{with_line_raised, with_line_dropped}
use Rattle.board.specs.declared.refusal.Refusal.{Refusal}
use Rattle.state.specs.declared.live.Live.{Live}
use Rattle.board.specs.Lines.{line_set}
use Rattle.board.specs.Run.{run_given}
use Rattle.board.specs.Situation.{Situation}
use Rattle.console.specs.declared.order.Order.{Order}
use Rattle.console.specs.declared.order.Order.TheVariants.{Run, Raise, Drop}
use Rattle.console.specs.Order.{order_of}
use Rattle.console.specs.Row.{row_bytes}
use Rattle.session.specs.declared.declined.Declined.TheVariants.{NotUnderstood, ByBoard}
use Rattle.session.specs.declared.rows.Ran.{Ran}
use Rattle.session.specs.declared.declined.Declined.{Declined}
use Rattle.session.specs.Rows.{register_row}

-- a line raised or dropped takes no step
abbrev pub set_answer : Result Unit Refusal → Result Ran Declined
set_answer (Ok done) = Ok (record { steps = 0; cycles = 0; ended = 0 })
set_answer (Err refusal) = Err (ByBoard refusal)

-- a run's own steps, cycles and number, or its refusal
abbrev pub run_answer : Result (ℕ × ℕ × ℕ) Refusal → Result Ran Declined
run_answer (Ok ran) = Ok (record { steps = ran.0; cycles = ran.1; ended = ran.2 })
run_answer (Err refusal) = Err (ByBoard refusal)

-- an order carried out; a line that is no order changes nothing
abbrev pub obeyed : {C : Type 0} → (C → Table) → (C → ℕ) → Option Order → Situation C Live → Result Ran Declined × Situation C Live
obeyed table figure None s = (Err NotUnderstood, s)
obeyed table figure (Some (Run budget)) s = (run_answer (run_given table figure budget s).0, (run_given table figure budget s).1)
obeyed table figure (Some (Raise line)) s = (set_answer (line_set with_line_raised line s).0, (line_set with_line_raised line s).1)
obeyed table figure (Some (Drop line)) s = (set_answer (line_set with_line_dropped line s).0, (line_set with_line_dropped line s).1)

-- what is printed of an order, and the situation it leaves
abbrev pub reported : {C : Type 0} → ℕ → Result Ran Declined × Situation C Live → List ℕ × Situation C Live
reported number p = (row_bytes (register_row number p.0 p.1.stage.registers), p.1)

-- a line given to a live board
abbrev pub order_line : {C : Type 0} → (C → Table) → (C → ℕ) → ℕ → List ℕ → Situation C Live → List ℕ × Situation C Live
order_line table figure number line s = reported number (obeyed table figure (order_of line) s)
