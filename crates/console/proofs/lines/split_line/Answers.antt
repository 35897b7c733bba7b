-- The text is cut at the end of its first line.
use Rattle.std.proofs.Common.{◌≡◌, length, arith, rules}
use Rattle.console.proofs.LineLaws.{length-line, line_is, rest_after_feed, rest_at_end, laws}
use Rattle.console.proofs.lines.split_line.Goals as goal

pub split_at-requires : goal.split_at-requires
split_at-requires c = omega (arith, length-line c.args.text.now)

pub returns-in-empty : goal.returns-in-empty
returns-in-empty c =
    let text = c.args.text.now in
    let none : length c.split_at.result.1.now ≡ 0 = search rules in
    let line = line_is text c.split_at.result.0.now c.line_length.result c.line_length.ensures c.split_at.ensures.front in
    let rest = rest_at_end text c.split_at.result.1.now c.line_length.result c.line_length.ensures c.split_at.ensures.back none in
    let more = laws text _ _ c.requires line rest in
    record { line = line; rest = rest; lines = more.lines; splits = more.splits; feedless = more.feedless; shorter = more.shorter }

pub returns-in-len1-up : goal.returns-in-len1-up
returns-in-len1-up c =
    let text = c.args.text.now in
    let line = line_is text c.split_at.result.0.now c.line_length.result c.line_length.ensures c.split_at.ensures.front in
    let rest = rest_after_feed text c.split_at.result.1.now c.line_length.result c.line_length.ensures c.split_at.ensures.back in
    let more = laws text _ _ c.requires line rest in
    record { line = line; rest = rest; lines = more.lines; splits = more.splits; feedless = more.feedless; shorter = more.shorter }
