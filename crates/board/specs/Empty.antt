-- Making a board.
use Rattle.std.specs.Prelude.{ℕ, cond, Ok, Err, Result, nat_lt}
use Rattle.board.specs.declared.board.Board.{Board}
use Rattle.board.specs.declared.refusal.Refused.{Refused}
use Rattle.board.specs.declared.refusal.Refusal.TheVariants.{StartPastLimit}
use Rattle.board.specs.declared.stages.Empty.{Empty}
use Rattle.board.specs.Situation.{clock_limit}

-- an empty board at its starting clock; above the limit memory and core come back
abbrev pub made_as : {B C : Type 0} → B → C → ℕ → Result (Board B C Empty) (Refused (B × C))
made_as bus core clock =
    cond
    (nat_lt clock_limit clock)
    (Err (record { refusal = StartPastLimit; back = (bus, core) }))
    (Ok (record { bus = bus; core = core; clock = clock; stage = record {} }))
