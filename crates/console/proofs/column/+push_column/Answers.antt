-- The front of the column stands when the last digit is pushed.
use Rattle.std.proofs.Common.{ℕ, ◌+◌, ◌/◌, ◌%◌, ◌^◌, ◌<◌, List, replicate, vec_items, vec_len, vec_capacity, ap, ◌∙◌, arith}
use Rattle.std.proofs.lemmas.List.{length-replicate}
use Rattle.console.specs.Column.{column}
use Rattle.console.proofs.ColumnPushed.{column_digit, column_more, length_front, last_pushed, last_counted}
use Rattle.console.proofs.column.+push_column.Goals as goal
use Rattle.console.proofs.column.+push_column.Goals.{then-value-lt10, else-value-lt10}

pub push_reserved-requires : goal.push_reserved-requires
push_reserved-requires t c =
    let width = c.args.width in
    let value = c.args.value in
    let before = c.saturating_sub-before.result in
    let small : value < 10 ^ 10 = omega arith in
    elim c.if-value-lt10.branch [
      | then-value-lt10 w ↦
          let split = column_digit width before value c.saturating_sub-before.ensures w.if-value-lt10.true in
          omega (arith, length_front width value _ (replicate before 32) c.requires.narrow small split, ap vec_len w.text-is, ap vec_capacity w.text-is)
      | else-value-lt10 w ↦
          let split = column_more width before value c.saturating_sub-before.ensures w.if-value-lt10.false small in
          omega (arith, length_front width value _ (column before (value / 10)) c.requires.narrow small split, ap vec_len w.text-is, ap vec_capacity w.text-is)
    ]

pub returns : goal.returns
returns t c =
    let width = c.args.width in
    let value = c.args.value in
    let before = c.saturating_sub-before.result in
    let digit : ℕ = 48 + value % 10 in
    let small : value < 10 ^ 10 = omega arith in
    elim c.if-value-lt10.branch [
      | then-value-lt10 w ↦
          let split = column_digit width before value c.saturating_sub-before.ensures w.if-value-lt10.true in
          let front : List ℕ = replicate before 32 in
          let kept = ap vec_capacity w.text-is in
          let counted = last_counted width value digit front c.requires.narrow small split (vec_len c.args.text.now) (vec_len c.if-value-lt10.text) (vec_len c.push_reserved.new.self) (omega (arith, ap vec_len w.text-is, length-replicate {A = ℕ} before 32)) c.push_reserved.ensures.len in
          record {
            items = last_pushed width value digit front c.requires.narrow small split (vec_items c.args.text.now) _ _ (ap vec_items w.text-is ∙ w.push_blanks.ensures.items) c.push_reserved.ensures.items;
            len = counted.0;
            within = counted.1;
            capacity = omega arith;
          }
      | else-value-lt10 w ↦
          let split = column_more width before value c.saturating_sub-before.ensures w.if-value-lt10.false small in
          let front : List ℕ = column before (value / 10) in
          let kept = ap vec_capacity w.text-is in
          let counted = last_counted width value digit front c.requires.narrow small split (vec_len c.args.text.now) (vec_len c.if-value-lt10.text) (vec_len c.push_reserved.new.self) (omega (arith, ap vec_len w.text-is)) c.push_reserved.ensures.len in
          record {
            items = last_pushed width value digit front c.requires.narrow small split (vec_items c.args.text.now) _ _ (ap vec_items w.text-is ∙ w.push_column.ensures.items) c.push_reserved.ensures.items;
            len = counted.0;
            within = counted.1;
            capacity = omega arith;
          }
    ]
