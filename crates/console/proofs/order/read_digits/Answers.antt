-- Each turn reads one digit.
use Rattle.std.proofs.Common.{◌<◌, sym, ◌∙◌, arith}
use Rattle.console.proofs.OrderLaws.{read_digit, read_other, read_end, one_more_digit}
use Rattle.console.proofs.order.read_digits.Goals as goal

pub returns-then-not-is_ascii_digit : goal.returns-then-not-is_ascii_digit
returns-then-not-is_ascii_digit c =
    sym (sym c.loop-digit.invariant.0 ∙ read_other c.loop-digit.value c.args.digits.now c.loop-digit.digit-index c.loop-digit-test.true (sym c.if-not-is_ascii_digit.ensures.value))

pub loop-digit-preserved : goal.loop-digit-preserved
loop-digit-preserved c =
    let here = read_digit c.loop-digit.value c.args.digits.now c.loop-digit.digit-index c.loop-digit-test.true (sym c.if-not-is_ascii_digit.ensures.value) in
    let small : c.from.result < 10 = omega (arith, c.if-not-is_ascii_digit.ensures.cases) in
    (rw c.from.ensures (sym here ∙ c.loop-digit.invariant.0), one_more_digit c.loop-digit.value c.from.result c.loop-digit.digit-index c.loop-digit.invariant.1 small)

pub returns : goal.returns
returns c =
    sym (sym c.loop-digit.invariant.0 ∙ read_end c.loop-digit.value c.args.digits.now c.loop-digit.digit-index c.loop-digit-test.false)
