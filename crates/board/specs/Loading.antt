-- A loading board.
use Rattle.std.specs.Prelude.{ℕ, cond, List, Ok, Err, Result}
use Rattle.srecord.specs.declared.refusal.LineRefusal.{LineRefusal}
use Rattle.srecord.specs.Load.{Taken, line_taken}
use Rattle.board.specs.declared.board.Board.{Board}
use Rattle.board.specs.declared.refusal.Refusal.{Refusal}
use Rattle.board.specs.declared.refusal.Refused.{Refused}
use Rattle.board.specs.declared.refusal.Refusal.TheVariants.{Line, NoEndRecord}
use Rattle.board.specs.declared.stages.Loading.{Loading}
use Rattle.board.specs.declared.stages.Ready.{Ready}
use Rattle.board.specs.Situation.{Situation}

-- a line's answer as the board's
abbrev pub line_answer : Result Unit LineRefusal → Result Unit Refusal
line_answer (Ok done) = Ok tt
line_answer (Err refusal) = Err (Line refusal)

-- a situation once a line was taken or refused; core and clock keep
abbrev pub after_line : {C : Type 0} → Situation C Loading → Taken → Result Unit Refusal × Situation C Loading
after_line s t = (line_answer t.answer, record s { stage = record { ended = t.is_ended }; memory = t.memory })

-- a line given to a loading board
abbrev pub line_given : {C : Type 0} → Situation C Loading → List ℕ → Result Unit Refusal × Situation C Loading
line_given s line = after_line s (line_taken s.stage.ended s.memory line)

-- an image with its end record is closed; without, the loading board comes back
abbrev pub closed_as : {B C : Type 0} → Board B C Loading → Result (Board B C Ready) (Refused (Board B C Loading))
closed_as b =
    cond
    b.stage.ended
    (Ok (record { bus = b.bus; core = b.core; clock = b.clock; stage = record {} }))
    (Err (record { refusal = NoEndRecord; back = b }))
