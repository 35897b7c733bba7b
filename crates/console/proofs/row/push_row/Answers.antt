-- A text with a row added is the text and then the row.
use Rattle.std.proofs.Common.{◌≡◌, ℕ, List, [], ◌∷◌, ◌++◌, vec_items, append_assoc}
use Rattle.console.specs.declared.row.RegisterRow.{RegisterRow}
use Rattle.console.specs.Column.{column}
use Rattle.console.specs.Row.{with_row, row_bytes}
use Rattle.console.proofs.row.push_row.Goals as goal

regroup : (x a b c d e f g h i j : List ℕ) → x ++ a ++ b ++ c ++ d ++ e ++ f ++ g ++ h ++ i ++ j ≡ x ++ ((a ++ b ++ c ++ d ++ e ++ f ++ g ++ h ++ i) ++ j)
regroup x a b c d e f g h i j = simp append_assoc

added : (row : RegisterRow) (before text after : List ℕ) → text ≡ before → after ≡ with_row text row → after ≡ before ++ row_bytes row
added row before text after e f =
    rw (f, e)
    (regroup before (column 6 row.line) (column 6 row.steps) (column 8 row.cycles) (column 3 row.refusal) (column 6 row.pc) (column 4 row.a) (column 6 row.hx) (column 6 row.sp) (column 4 row.ccr) (10 ∷ []))

pub returns : goal.returns
returns c = added c.args.row.now (vec_items c.args.text.now) _ _ c.reserve.ensures.items c.push_columns.ensures
