use Rattle.first_set.proofs.Same.{instructions_alike}
use Rattle.first_set.proofs.meaning.first_set_means.Goals as goal

pub returns-clause-instructions : goal.returns-clause-instructions
returns-clause-instructions c = instructions_alike c.operations_mean.ensures
