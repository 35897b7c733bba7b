-- The cells are asked from the address on.
use Rattle.std.proofs.Common.{◌≡◌, ◌-◌, refl, rules, arith}
use Rattle.srecord.proofs.Asking.{asked}
use Rattle.srecord.proofs.load.require_open.Goals as goal

pub returns : goal.returns
returns g c =
    let ran = c.try_for_each.ensures.ran in
    let none : c.from-first.result - c.args.address ≡ 0 = omega arith in
    asked _ (λ residual. residual.0) (g.B.Bus.cells c.args.bus.now) c.args.address c.args.count (λ x v q k h. search rules) c.try_for_each.result c.try_for_each.new.self
    ran.0 _ ran.3.0 ran.1 ran.2 (omega arith) (omega arith) (omega arith) (rw none refl) ran.3.1 ran.3.2 ran.4 ran.5
