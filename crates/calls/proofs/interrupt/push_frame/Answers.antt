use Rattle.std.proofs.Common.{sym, ◌∙◌}
use Rattle.alu.specs.Addresses.{before}
use Rattle.access.specs.Words.{pushed_word}
use Rattle.access.proofs.Sequence.{sequenced}
use Rattle.calls.specs.Interrupt.{pushed_operands}
use Rattle.calls.proofs.interrupt.push_frame.Goals as goal

pub returns : goal.returns
returns g c =
    let r = c.args.registers.now in
    let e = sequenced (λ _. pushed_operands (before r.sp 2) r) (pushed_word r.sp r.pc) (g.B.Bus.cells c.args.bus.now) in
    let pushed = rw (← c.push_word.ensures, c.in_ok-push_word.was) at e in
    c.push_operands.ensures ∙ sym pushed
