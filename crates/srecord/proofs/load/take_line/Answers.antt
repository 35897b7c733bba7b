use Rattle.std.proofs.Common.{◌≡◌, rules}
use Rattle.srecord.specs.Load.{line_taken}
use Rattle.srecord.proofs.Spelling.{data_spelled}
use Rattle.srecord.proofs.load.take_line.Goals as goal

pub returns-clause-cells_spelled : goal.returns-clause-cells_spelled
returns-clause-cells_spelled g c =
    let cells = g.B.Bus.cells c.args.bus.now in
    let taken = line_taken c.args.ended.now cells c.args.line.now in
    let answered : c.take_record.result ≡ taken.answer = search rules in
    let left : g.B.Bus.cells c.take_record.new.bus ≡ taken.memory = search rules in
    data_spelled c.args.line.now cells c.args.ended.now _ _ answered left
