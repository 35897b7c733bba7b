use Rattle.std.proofs.Common.{arith}
use Rattle.access.specs.Access.{done}
use Rattle.access.proofs.Sequence.{sequenced}
use Rattle.effects.specs.Frame.{restored}
use Rattle.calls.specs.Returns.{frame_read}
use Rattle.calls.proofs.returns.return_from_interrupt.Goals as goal

pub returns : goal.returns
returns g c =
    let r = c.args.processor.now.registers.now in
    grind (arith, sequenced (λ frame. done (restored frame r)) (frame_read r.sp) (g.B.Bus.cells c.args.processor.now.bus.now))
