-- Each call has a digit less to write.
use Rattle.console.proofs.column.+push_column.Given as goal

abbrev pub decreases-push_column : goal.decreases-push_column
decreases-push_column l = l.value
