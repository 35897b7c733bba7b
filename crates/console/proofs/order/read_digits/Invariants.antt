-- What is left of the digits gives the number, and each digit read makes it at most ten times as large.
use Rattle.std.proofs.Common.{◌≡◌, ◌^◌, ◌<◌, drop}
use Rattle.console.specs.Order.{digits_value}
use Rattle.console.proofs.order.read_digits.Given as goal

abbrev pub invariant-loop-digit : goal.invariant-loop-digit
invariant-loop-digit l =
    (digits_value l.value (drop l.digit-index l.digits) ≡ digits_value 0 l.digits) × (l.value < 10 ^ l.digit-index)
