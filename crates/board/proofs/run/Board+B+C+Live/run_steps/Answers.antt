use Rattle.std.proofs.Common.{◌≡◌, ℕ, ◌+◌, ◌-◌, ◌<◌, Ok, Err, sym, ap, ◌∙◌, subst, add-zero, arith, rules}
use Rattle.state.specs.declared.live.Live.{Live}
use Rattle.board.specs.Refusal.{refusal_number}
use Rattle.board.specs.Run.{Ran, run_taken, end_number}
use Rattle.board.specs.Situation.{situation}
use Rattle.board.proofs.RunLaws.{ticked, told}
use Rattle.board.proofs.Runs.{SoFar, again, refused, spent_all}
use Rattle.board.proofs.run.Board+B+C+Live.run_steps.Given as given
use Rattle.board.proofs.run.Board+B+C+Live.run_steps.Goals as goal
use Rattle.board.proofs.run.Board+B+C+Live.run_steps.Goals.{then-steps-budget, else-steps-budget+in-Err}

pub loop-steps-preserved : goal.loop-steps-preserved
loop-steps-preserved g c =
    let at = situation {C = g.row.C.Denot} {S = Live} g.B.Bus.cells in
    let start = c.args.self.now.clock in
    let spent = c.in-Ok.field-0 in
    let small : spent < 256 = search rules in
    let more : c.loop-steps.steps < c.args.budget = omega arith in
    let stepped = c.in-Ok.ensures in
    let clock : c.step.new.self.clock ≡ c.loop-steps.self.clock + spent =
    ticked g.C.Core.table g.C.Core.entry_figure (at c.loop-steps.self) (at c.step.new.self) (Ok spent) stepped in
    let cycles : c.step.new.self.clock - start ≡ (c.loop-steps.self.clock - start) + spent = omega arith in (
      omega arith,
      omega arith,
      omega arith,
      subst
          (λ (n : ℕ). SoFar g.C.Core.table g.C.Core.entry_figure c.args.budget (c.loop-steps.steps + 1) n (at c.args.self.now) (at c.step.new.self))
          (sym cycles)
          (again c.loop-steps.invariant.3 (at c.step.new.self) spent more stepped),
    )

-- the loop breaks with the budget spent, or with the refusal of a step, which leaves the clock
ended : (g : given.Over) (c : goal.After-end_number g) →
    ◌≡◌ {A = Ran g.row.C.Denot} ((c.loop-steps.steps, c.if-steps-budget.self.clock - c.args.self.now.clock, c.end_number.result), situation {C = g.row.C.Denot} {S = Live} g.B.Bus.cells c.if-steps-budget.self) (run_taken g.C.Core.table g.C.Core.entry_figure c.args.budget (situation {C = g.row.C.Denot} {S = Live} g.B.Bus.cells c.args.self.now))
ended g c =
    let at = situation {C = g.row.C.Denot} {S = Live} g.B.Bus.cells in
    elim c.if-steps-budget.branch [
      | then-steps-budget w ↦
          let number : c.end_number.result ≡ 0 = c.end_number.ensures ∙ ap end_number w.ended-is in
          let whole = spent_all c.loop-steps.invariant.3 w.if-steps-budget.true in
          cc (number, whole, w.self-is)
      | else-steps-budget+in-Err w ↦
          let number : c.end_number.result ≡ refusal_number w.in-Err.refusal = c.end_number.ensures ∙ ap end_number w.ended-is in
          let more : c.loop-steps.steps < c.args.budget = omega arith in
          let stepped = w.in-Err.ensures in
          let clock : w.step.new.self.clock ≡ c.loop-steps.self.clock =
          ticked g.C.Core.table g.C.Core.entry_figure (at c.loop-steps.self) (at w.step.new.self) (Err w.in-Err.refusal) stepped ∙ add-zero c.loop-steps.self.clock in
          let whole = refused c.loop-steps.invariant.3 (at w.step.new.self) w.in-Err.refusal more stepped in
          cc (number, whole, w.self-is, clock)
    ]

pub returns : goal.returns
returns g c =
    let at = situation {C = g.row.C.Denot} {S = Live} g.B.Bus.cells in
    let e = ended g c in
    let laws =
    told
    g.C.Core.table
    g.C.Core.entry_figure
    c.args.budget
    (at c.args.self.now)
    (at c.if-steps-budget.self)
    (c.loop-steps.steps, c.if-steps-budget.self.clock - c.args.self.now.clock, c.end_number.result)
    e in
    record { meaning = e; clock_is_start_plus_cycles = laws.0; steps_within_budget = laws.1 }
