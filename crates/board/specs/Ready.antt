-- Reset.
use Rattle.std.specs.Prelude.{ℕ, true, false, Ok, Err, Result}
use Rattle.access.specs.declared.fault.Fault.{Fault}
use Rattle.state.specs.declared.registers.Registers.{Registers}
use Rattle.state.specs.declared.standing.Standing.{Standing}
use Rattle.state.specs.declared.standing.Standing.TheVariants.{Running, Halted}
use Rattle.access.specs.Access.{perform}
use Rattle.access.specs.Words.{fetch_word}
use Rattle.state.specs.declared.live.Live.{Live}
use Rattle.board.specs.declared.stages.Ready.{Ready}
use Rattle.board.specs.Situation.{Situation}

-- A, H and X are 0, SP is $00FF, and of the flags I alone is set: CCR is $68
abbrev pub reset_registers : ℕ → Registers
reset_registers pc =
    record { a = 0; h = 0; x = 0; sp = 0x00FF; pc = pc; flags = record { v = false; h = false; i = true; n = false; z = false; c = false } }

-- started at an address, with no line raised
abbrev pub started : ℕ → Standing → Live
started pc standing = record { registers = reset_registers pc; standing = standing; lines = 0 }

-- running from the vector; halted at 0 where a cell of the vector is missing
abbrev pub reset_stage : Result ℕ Fault → Live
reset_stage (Ok pc) = started pc Running
reset_stage (Err fault) = started 0 Halted

-- reset takes PC from $FFFE and keeps core, clock and cells
abbrev pub reset_of : {C : Type 0} → Situation C Ready → Situation C Live
reset_of s =
    record { core = s.core; clock = s.clock; stage = reset_stage (perform (fetch_word 0xFFFE) s.memory).0; memory = s.memory }
