use Rattle.std.proofs.Common.{arith}
use Rattle.state.proofs.LineSets.{lowest}
use Rattle.state.proofs.lines.served_vector.Goals as goal

pub returns-clause-lowest : goal.returns-clause-lowest
returns-clause-lowest c = λ h. lowest c.args.lines h (omega arith)
