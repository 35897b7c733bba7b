use Rattle.std.proofs.Common.{rules}
use Rattle.alu.proofs.Digits.{adjusts}
use Rattle.alu.proofs.decimal.decimal_adjust.Goals as goal

pub returns : goal.returns
returns c = adjusts c.args.a c.args.flags _ (search rules)
