-- What is printed is a text.
use Rattle.std.proofs.Common.{vec_items, subst}
use Rattle.std.specs.Result.{IsOk}
use Rattle.std.proofs.lemmas.Bool.{false≢true}
use Rattle.console.specs.Lines.{lines_of}
use Rattle.session.proofs.Ascii.{printed_text}
use Rattle.session.proofs.course.course.Goals as goal

pub unreachable-requires : goal.unreachable-requires
unreachable-requires c =
    false≢true (subst IsOk c.in_default.is (c.from_utf8.ensures.succeeds (printed_text (lines_of c.looked_at.result.now) (vec_items c.in_ok-printed.printed) c.in_ok-printed.ensures)))
