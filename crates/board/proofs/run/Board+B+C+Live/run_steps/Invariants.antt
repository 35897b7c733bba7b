use Rattle.std.proofs.Common.{◌-◌, ◌*◌, ◌≤◌}
use Rattle.board.specs.Situation.{situation}
use Rattle.board.proofs.Runs.{SoFar}
use Rattle.board.proofs.run.Board+B+C+Live.run_steps.Given as goal

-- the clock goes on by at most 255 a step, and the whole run is the run so far, put before the run that remains
abbrev pub invariant-loop-steps : goal.invariant-loop-steps
invariant-loop-steps g l =
    let at = situation g.B.Bus.cells in
    (l.steps ≤ l.budget)
    × (l.start ≤ l.self.clock)
    × (l.self.clock - l.start ≤ 255 * l.steps)
    × SoFar g.C.Core.table g.C.Core.entry_figure l.budget l.steps (l.self.clock - l.start) (at l.initial.self) (at l.self)

abbrev pub decreases-loop-steps : goal.decreases-loop-steps
decreases-loop-steps g l = l.budget - l.steps
