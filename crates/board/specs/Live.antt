-- A step of a live board.
use Rattle.std.specs.Prelude.{ℕ, ◌+◌, Bool, cond, not, ◌&&◌, Some, None, Ok, Err, Option, Result, ◌==◌, nat_lt}
use Rattle.bus.specs.Cell.{Cells}
use Rattle.isa.specs.Law.{Table}
use Rattle.access.specs.declared.fault.Fault.{Fault}
use Rattle.state.specs.declared.standing.Standing.TheVariants.{Running, Waiting, Stopped, Halted}
use Rattle.access.specs.Access.{Access, done, fail, perform}
use Rattle.machine.specs.Execute.{Executed, executes, instruction}
use Rattle.machine.specs.Request.{entered}
use Rattle.board.specs.declared.refusal.Refusal.{Refusal}
use Rattle.board.specs.declared.refusal.Refusal.TheVariants.{BoardHalted, ClockPastLimit, StoppedWithoutLine}
use Rattle.state.specs.declared.live.Live.{Live}
use Rattle.board.specs.Situation.{Situation, clock_limit}

-- whether some line is raised
abbrev pub pending : Live → Bool
pending live = not (live.lines == 0)

-- a clock past its limit refuses, and then what else refuses
abbrev pub clock_refusal : ℕ → Option Refusal → Option Refusal
clock_refusal clock otherwise = cond (nat_lt clock_limit clock) (Some ClockPastLimit) otherwise

-- why a step is refused: halted, or the clock past its limit, or stopped with no line raised, in this order
abbrev pub step_refusal : ℕ → Live → Option Refusal
step_refusal clock live =
    elim live.standing [
      | Running ↦ clock_refusal clock None
      | Waiting ↦ clock_refusal clock None
      | Stopped ↦ clock_refusal clock (cond (pending live) None (Some StoppedWithoutLine))
      | Halted ↦ Some BoardHalted
    ]

-- one cycle passes
abbrev pub waited : Live → Access Executed
waited live = done (record { registers = live.registers; standing = Waiting; cycles = 1 })

-- what a step does: a raised line is entered if the board is waiting, stopped or has I clear; waiting, a cycle passes; else the instruction is executed
abbrev pub action : Table → ℕ → Live → Access Executed
action table figure live =
    elim live.standing [
      | Running ↦ cond (pending live && not live.registers.flags.i) (entered figure live) (instruction table live)
      | Waiting ↦ cond (pending live) (entered figure live) (waited live)
      | Stopped ↦ entered figure live
      | Halted ↦ fail
    ]

-- a step's cycles on the clock; at a fault the board halts, at 0 cycles
abbrev pub counted : {C : Type 0} → Situation C Live → Result ℕ Fault → Result ℕ Refusal × Situation C Live
counted s (Ok cycles) = (Ok cycles, record s { clock = s.clock + cycles })
counted s (Err fault) = (Ok 0, record s { stage = record s.stage { standing = Halted } })

-- what the machine then holds and the cells, with the cycles on the clock
abbrev pub acted : {C : Type 0} → Situation C Live → Result ℕ Fault × Live × Cells → Result ℕ Refusal × Situation C Live
acted s (cycles, live, m) = counted (record s { stage = live; memory = m }) cycles

-- what a step leaves
abbrev pub settled : {C : Type 0} → Situation C Live → Result Executed Fault × Cells → Result ℕ Refusal × Situation C Live
settled s p = acted s (executes s.stage p)

-- a step, unless it is refused
abbrev pub unless_refused : {C : Type 0} → Option Refusal → (C → Table) → (C → ℕ) → Situation C Live → Result ℕ Refusal × Situation C Live
unless_refused (Some refusal) table figure s = (Err refusal, s)
unless_refused None table figure s = settled s (perform (action (table s.core) (figure s.core) s.stage) s.memory)

-- a step of a live board, by what a core's table and entry figure are
abbrev pub step_taken : {C : Type 0} → (C → Table) → (C → ℕ) → Situation C Live → Result ℕ Refusal × Situation C Live
step_taken table figure s = unless_refused (step_refusal s.clock s.stage) table figure s
