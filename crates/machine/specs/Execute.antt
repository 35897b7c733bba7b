-- One instruction, as its accesses and what it leaves.
use Rattle.std.specs.Prelude.{ℕ, Ok, Err, Result}
use Rattle.alu.specs.Addresses.{after}
use Rattle.bus.specs.Cell.{Cells}
use Rattle.isa.specs.Law.{Table}
use Rattle.state.specs.declared.live.Live.{Live}
use Rattle.state.specs.declared.registers.Registers.{Registers}
use Rattle.state.specs.declared.standing.Standing.{Standing}
use Rattle.state.specs.Registers.{with_pc}
use Rattle.access.specs.declared.fault.Fault.{Fault}
use Rattle.access.specs.Access.{Access, done, ◌>>=◌}
use Rattle.operands.specs.Address.{reached}
use Rattle.machine.specs.declared.decode.Decoded.{Decoded}
use Rattle.machine.specs.Act.{acted, stands_after}
use Rattle.machine.specs.Decode.{decoded}

-- what an instruction or a request leaves, and its cycles
pub record Executed : Type 0 where
  pub registers : Registers
  pub standing : Standing
  pub cycles : ℕ

-- the operation of a decoded instruction, on the operand at an address
abbrev pub acted_at : Decoded → Registers → ℕ → ℕ → Access Registers
acted_at d r lines address =
    acted d.row.operation (record { mode = d.row.mode; bytes = d.operand; address = address }) r lines

-- a decoded instruction: its operand is found, and its operation carried out
abbrev pub operated : Decoded → Registers → ℕ → Access Registers
operated d r lines = reached d.row.mode d.operand r >>= acted_at d r lines

-- the registers with the program counter moved on to the next instruction
abbrev pub moved_on : Decoded → Registers → Registers
moved_on d r = with_pc (after r.pc d.row.bytes) r

-- what a decoded instruction leaves, at the row's cycles
abbrev pub finished : Decoded → Standing → Registers → Access Executed
finished d s r = done (record { registers = r; standing = stands_after d.row.operation s; cycles = d.row.cycles })

-- a decoded instruction carried out
abbrev pub carried_out : Live → Decoded → Access Executed
carried_out live d = operated d (moved_on d live.registers) live.lines >>= finished d live.standing

-- the instruction at the program counter: decoded, then carried out
abbrev pub instruction : Table → Live → Access Executed
instruction table live = decoded table live.registers.pc >>= carried_out live

-- the cycles that are answered, with what the machine then holds and the cells: the lines stay, and a fault leaves all that it holds as it was
abbrev pub executes : Live → Result Executed Fault × Cells → Result ℕ Fault × Live × Cells
executes live (Ok e, m) = (Ok e.cycles, record live { registers = e.registers; standing = e.standing }, m)
executes live (Err fault, m) = (Err fault, live, m)
