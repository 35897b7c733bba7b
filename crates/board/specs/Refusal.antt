-- The numbers of the refusals.
use Rattle.std.specs.Prelude.{ℕ}
use Rattle.srecord.specs.Refusal.{line_number}
use Rattle.board.specs.declared.refusal.Refusal.{Refusal}
use Rattle.board.specs.declared.refusal.Refusal.TheVariants.{Line, NoEndRecord, BoardHalted, ClockPastLimit, StoppedWithoutLine, BudgetTooLarge, NoSuchLine, StartPastLimit}

-- a refusal's number; those of record lines are their own
abbrev pub refusal_number : Refusal → ℕ
refusal_number (Line refusal) = line_number refusal
refusal_number NoEndRecord = 20
refusal_number BoardHalted = 30
refusal_number ClockPastLimit = 31
refusal_number StoppedWithoutLine = 32
refusal_number BudgetTooLarge = 33
refusal_number NoSuchLine = 34
refusal_number StartPastLimit = 35
