use Rattle.std.proofs.Common.{arith}
use Rattle.machine.proofs.Executed.{requested}
use Rattle.machine.proofs.request.enter.Goals as goal

pub returns-in_err-interrupt : goal.returns-in_err-interrupt
returns-in_err-interrupt g c =
    grind (arith, requested c.args.live.now (g.C.Core.entry_figure c.args.core.now) (g.B.Bus.cells c.args.bus.now) c.served_vector.ensures.value c.interrupt.ensures.2)

pub returns : goal.returns
returns g c =
    grind (arith, requested c.args.live.now (g.C.Core.entry_figure c.args.core.now) (g.B.Bus.cells c.args.bus.now) c.served_vector.ensures.value c.interrupt.ensures.2)
