use Rattle.std.proofs.Common.{◌≡◌, ◌+◌, ◌≤◌, ◌++◌, length, vec_items}
use Rattle.bus.specs.Cell.{Cells}
use Rattle.bus.specs.Open.{open_cells}
use Rattle.bus.specs.declared.open.OpenMemory.{OpenMemory}
use Rattle.console.specs.Lines.{lines_of}
use Rattle.session.specs.Course.{session_prints}
use Rattle.session.specs.Phase.{printed, shown}
use Rattle.session.proofs.course.session.Given as goal

-- what was printed so far, and then what is printed of the lines that are left, is all that is printed
abbrev pub invariant-loop-number : goal.invariant-loop-number
invariant-loop-number g l =
    let memory : OpenMemory → Cells = λ m. open_cells (vec_items m.bytes) in
    let left = l.number-iterator in
    (left.a.start + length (lines_of left.b.0.now) ≤ 32770)
    × (vec_items l.text ++ printed g.C.Core.table g.C.Core.entry_figure left.a.start (lines_of left.b.0.now) (shown memory l.phase) ≡ session_prints g.C.Core.table g.C.Core.entry_figure l.fn.core (lines_of l.fn.lines.0.now))
