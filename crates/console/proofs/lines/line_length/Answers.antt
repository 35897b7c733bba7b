use Rattle.std.proofs.Common.{rules, tests, ◌==◌, length, unwrap_or, ap, ◌∙◌}
use Rattle.std.proofs.lemmas.Iterator.{YieldsList-from_slice}
use Rattle.std.proofs.lemmas.Iterator.Search.{position_from_yields_List}
use Rattle.console.proofs.LineLaws.{length_by_position}
use Rattle.console.proofs.lines.line_length.Goals as goal

pub returns : goal.returns
returns c =
    let text = c.args.text.now in
    let found = position_from_yields_List {all = text} (λ x. x == 10) _ _ c.position.result c.position.ensures.ran (YieldsList-from_slice _ (cc)) (λ x b q k. search (rules, tests)) in
    c.unwrap_or.ensures ∙ ap (λ r. unwrap_or r (length text)) found ∙ length_by_position text
