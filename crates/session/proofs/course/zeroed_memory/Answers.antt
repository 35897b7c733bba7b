use Rattle.std.proofs.Common.{vec_items, refl, ◌∙◌}
use Rattle.session.proofs.Zeroed.{zeros}
use Rattle.session.proofs.course.zeroed_memory.Goals as goal

pub returns : goal.returns
returns c =
    c.from.ensures.1 ∙ zeros 65536 (vec_items c.in_ok-vec.field-0) (c.in_ok-vec.ensures.items_if_clones_equal (λ y e. e)) refl
