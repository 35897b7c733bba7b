-- Entering an interrupt request.
use Rattle.std.specs.Prelude.{ℕ}
use Rattle.state.specs.declared.live.Live.{Live}
use Rattle.state.specs.declared.registers.Registers.{Registers}
use Rattle.state.specs.declared.standing.Standing.TheVariants.{Running}
use Rattle.state.specs.Lines.{served_line, vector_of}
use Rattle.access.specs.Access.{Access, done, ◌>>=◌}
use Rattle.calls.specs.Interrupt.{interrupted}
use Rattle.machine.specs.Execute.{Executed}

-- the machine runs, at the entry's cycles
abbrev pub begun : ℕ → Registers → Access Executed
begun figure r = done (record { registers = r; standing = Running; cycles = figure })

-- the program is interrupted at the vector of the served line
abbrev pub entered : ℕ → Live → Access Executed
entered figure live = interrupted (vector_of (served_line live.lines)) live.registers >>= begun figure
