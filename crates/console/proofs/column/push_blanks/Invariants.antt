-- As many blanks as turns.
use Rattle.std.proofs.Common.{◌≡◌, ◌+◌, ◌++◌, replicate, vec_items, vec_len, vec_capacity}
use Rattle.console.proofs.column.push_blanks.Given as goal

abbrev pub invariant-loop-i : goal.invariant-loop-i
invariant-loop-i l =
    (vec_items l.text ≡ vec_items l.initial.text ++ replicate l._i 32) × (vec_len l.text ≡ vec_len l.initial.text + l._i) × (vec_capacity l.text ≡ vec_capacity l.initial.text)
