-- One blank more is one more turn.
use Rattle.std.proofs.Common.{[], ◌∷◌, ◌++◌, replicate, vec_items, ap, ◌∙◌, append_assoc, arith}
use Rattle.std.proofs.lemmas.List.{replicate_more}
use Rattle.console.proofs.column.push_blanks.Goals as goal

pub loop-i-preserved : goal.loop-i-preserved
loop-i-preserved c =
    let before = vec_items c.args.text.now in
    let i = c.loop-i._i in
    (c.push_reserved.ensures.items ∙ ap (λ bs. bs ++ 32 ∷ []) c.loop-i.invariant.0 ∙ append_assoc before (replicate i 32) (32 ∷ []) ∙ ap (λ bs. before ++ bs) (replicate_more i 32), omega arith, omega arith)
