use Rattle.std.proofs.Common.{◌≡◌, drop}
use Rattle.srecord.specs.Digits.{all_digits}
use Rattle.srecord.proofs.digits.all_hexadecimal.Given as goal

-- what is left decides
abbrev pub invariant-loop-character : goal.invariant-loop-character
invariant-loop-character l = all_digits (drop l.character-index l.characters) ≡ all_digits l.characters
