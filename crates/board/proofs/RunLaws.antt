-- The clock and the steps of whole runs.
use Rattle.std.proofs.Common.{◌≡◌, ℕ, zero, suc, ◌+◌, ◌≤◌, Some, None, Ok, Err, Option, Result, sym, refl, ap, ◌∙◌, subst, add-zero, add_assoc, arith}
use Rattle.bus.specs.Cell.{Cells}
use Rattle.isa.specs.Law.{Table}
use Rattle.access.specs.declared.fault.Fault.{Fault}
use Rattle.machine.specs.Execute.{Executed}
use Rattle.access.specs.Access.{perform}
use Rattle.board.specs.declared.refusal.Refusal.{Refusal}
use Rattle.state.specs.declared.live.Live.{Live}
use Rattle.board.specs.Live.{action, settled, step_refusal, step_taken, unless_refused}
use Rattle.board.specs.Run.{Ran, run_on, run_taken}
use Rattle.board.specs.Situation.{Situation}

-- the cycles that a step answers; a refused one takes none
abbrev pub cycles_of : Result ℕ Refusal → ℕ
cycles_of (Ok cycles) = cycles
cycles_of (Err refusal) = 0

-- an answer and a situation after which the clock has moved on by the cycles answered
abbrev Ticked : {C : Type 0} → Situation C Live → Result ℕ Refusal × Situation C Live → Type 0
Ticked s p = p.1.clock ≡ s.clock + cycles_of p.0

settled_ticks : {C : Type 0} (s : Situation C Live) (p : Result Executed Fault × Cells) → Ticked s (settled s p)
settled_ticks s (Ok e, m) = refl
settled_ticks s (Err fault, m) = sym (add-zero s.clock)

module _ {C : Type 0} (table : C → Table) (figure : C → ℕ) where
  ticks : (s : Situation C Live) (refusal : Option Refusal) → Ticked s (unless_refused refusal table figure s)
  ticks s (Some refusal) = sym (add-zero s.clock)
  ticks s None = settled_ticks s (perform (action (table s.core) (figure s.core) s.stage) s.memory)

  pub step_clock : (s : Situation C Live) → Ticked s (step_taken table figure s)
  step_clock s = ticks s (step_refusal s.clock s.stage)

  -- the clock after a step, by its answer
  pub ticked : (s s' : Situation C Live) (answer : Result ℕ Refusal) → ◌≡◌ {A = Result ℕ Refusal × Situation C Live} (answer, s') (step_taken table figure s) →
      s'.clock ≡ s.clock + cycles_of answer
  ticked s s' answer e =
      ap (λ (p : Result ℕ Refusal × Situation C Live). p.1.clock) e
      ∙ step_clock s
      ∙ ap (λ (p : Result ℕ Refusal × Situation C Live). s.clock + cycles_of p.0) (sym e)

  -- the clock of a run that begins with a step, by that of the rest
  on_clock : (n : ℕ) →
      ((s : Situation C Live) → (run_taken table figure n s).1.clock ≡ s.clock + (run_taken table figure n s).0.1) →
      (s : Situation C Live) (p : Result ℕ Refusal × Situation C Live) → Ticked s p →
      (run_on (run_taken table figure n) p).1.clock ≡ s.clock + (run_on (run_taken table figure n) p).0.1
  on_clock n rest s (Ok cycles, s') h =
      rest s'
      ∙ ap (λ (k : ℕ). k + (run_taken table figure n s').0.1) h
      ∙ add_assoc s.clock cycles (run_taken table figure n s').0.1
  on_clock n rest s (Err refusal, s') h = h

  pub run_clock : (n : ℕ) (s : Situation C Live) → (run_taken table figure n s).1.clock ≡ s.clock + (run_taken table figure n s).0.1
  run_clock zero s = sym (add-zero s.clock)
  run_clock (suc n) s = on_clock n (run_clock n) s (step_taken table figure s) (step_clock s)

  -- the steps of a run that begins with a step, by those of the rest
  on_steps : (n : ℕ) → ((s : Situation C Live) → (run_taken table figure n s).0.0 ≤ n) →
      (p : Result ℕ Refusal × Situation C Live) → (run_on (run_taken table figure n) p).0.0 ≤ suc n
  on_steps n rest (Ok cycles, s') = omega (arith, rest s')
  on_steps n rest (Err refusal, s') = omega arith

  pub steps_of_run : (n : ℕ) (s : Situation C Live) → (run_taken table figure n s).0.0 ≤ n
  steps_of_run zero s = omega arith
  steps_of_run (suc n) s = on_steps n (steps_of_run n) (step_taken table figure s)

  -- what a run's answer says of its clock and its steps
  pub told : (n : ℕ) (s s' : Situation C Live) (answer : ℕ × ℕ × ℕ) → ◌≡◌ {A = Ran C} (answer, s') (run_taken table figure n s) →
      (s'.clock ≡ s.clock + answer.1) × (answer.0 ≤ n)
  told n s s' answer e = (
    ap (λ (ran : Ran C). ran.1.clock) e ∙ run_clock n s ∙ ap (λ (ran : Ran C). s.clock + ran.0.1) (sym e),
    subst (λ (ran : Ran C). ran.0.0 ≤ n) (sym e) (steps_of_run n s),
  )
