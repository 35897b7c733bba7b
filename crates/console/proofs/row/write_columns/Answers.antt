-- Each column is as the library formats it.
use Rattle.std.proofs.Common.{append_assoc, arith}
use Rattle.console.proofs.ColumnLaws.{column_written}
use Rattle.console.proofs.row.write_columns.Goals as goal

pub returns-clause-columns : goal.returns-clause-columns
returns-clause-columns g c =
    let row = c.args.row in
    rw (
      column_written 6 row.line (omega arith) (omega arith),
      column_written 6 row.steps (omega arith) (omega arith),
      column_written 8 row.cycles (omega arith) (omega arith),
      column_written 3 row.refusal (omega arith) (omega arith),
      column_written 6 row.pc (omega arith) (omega arith),
      column_written 4 row.a (omega arith) (omega arith),
      column_written 6 row.hx (omega arith) (omega arith),
      column_written 6 row.sp (omega arith) (omega arith),
      column_written 4 row.ccr (omega arith) (omega arith),
    ) (simp append_assoc)
