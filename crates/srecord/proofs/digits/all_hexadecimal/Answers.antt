-- At the end each character was a digit.
use Rattle.std.proofs.Common.{◌≡◌, true, sym, ◌∙◌}
use Rattle.std.proofs.lemmas.List.{at_drop_all}
use Rattle.srecord.specs.Digits.{all_digits}
use Rattle.srecord.proofs.digits.all_hexadecimal.Goals as goal

pub returns : goal.returns
returns c =
    let all : all_digits c.args.characters.now ≡ true = sym c.loop-character.invariant ∙ at_drop_all all_digits c.args.characters.now c.loop-character.character-index c.loop-character-test.false in
    simp all
