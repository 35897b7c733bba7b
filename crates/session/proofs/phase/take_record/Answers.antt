use Rattle.std.proofs.Common.{ap}
use Rattle.session.specs.Phase.{record_answered}
use Rattle.session.proofs.phase.take_record.Goals as goal

-- a refused line gives its row
pub returns-in-Err : goal.returns-in-Err
returns-in-Err g c =
    rw (c.blank_row-row.ensures, c.into.ensures) (ap (record_answered c.args.line.number) c.in-Err.ensures)
