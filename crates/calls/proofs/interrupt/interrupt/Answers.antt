use Rattle.std.proofs.Common.{arith}
use Rattle.access.proofs.Sequence.{sequenced}
use Rattle.calls.specs.Interrupt.{pushed_frame, vectored}
use Rattle.calls.proofs.interrupt.interrupt.Goals as goal

pub returns-in_err-push_frame : goal.returns-in_err-push_frame
returns-in_err-push_frame g c =
    let r = c.args.processor.now.registers.now in
    grind (arith, sequenced (λ _. vectored c.args.vector r) (pushed_frame r) (g.B.Bus.cells c.args.processor.now.bus.now))

pub returns : goal.returns
returns g c =
    let r = c.args.processor.now.registers.now in
    grind (arith, sequenced (λ _. vectored c.args.vector r) (pushed_frame r) (g.B.Bus.cells c.args.processor.now.bus.now))
