use Rattle.console.proofs.ColumnLaws.{fills_width}
use Rattle.console.proofs.OrderLaws.{reads_back}
use Rattle.console.proofs.examples.column_laws_hold.Goals as goal

pub returns : goal.returns
returns c = record { width = fills_width; value = reads_back }
