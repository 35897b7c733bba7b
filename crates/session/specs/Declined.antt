-- The numbers of what is not obeyed.
use Rattle.std.specs.Prelude.{ℕ}
use Rattle.board.specs.Refusal.{refusal_number}
use Rattle.session.specs.declared.declined.Declined.{Declined}
use Rattle.session.specs.declared.declined.Declined.TheVariants.{NotUnderstood, ByBoard}

-- 36, or the board's own number
abbrev pub declined_number : Declined → ℕ
declined_number NotUnderstood = 36
declined_number (ByBoard refusal) = refusal_number refusal
