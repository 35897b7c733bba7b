-- The machine of all instructions means the same, on the first set.
use Rattle.std.specs.Prelude.{◌≡◌, ℕ, Some}
use Rattle.isa.specs.Law.{Table, LawfulRow}
use Rattle.isa.specs.declared.operation.Condition.{Condition}
use Rattle.isa.specs.declared.operation.Operation.{Operation}
use Rattle.isa.specs.declared.operation.Operation.TheVariants.{Branch, Combine, Modify, Word, Displace, Register, Rest}
use Rattle.isa.specs.declared.operation.ReadModifyWrite.{ReadModifyWrite}
use Rattle.isa.specs.declared.operation.RegisterMemory.{RegisterMemory}
use Rattle.isa.specs.declared.operation.RegisterOnly.{RegisterOnly}
use Rattle.isa.specs.declared.operation.WordOperation.TheVariants.{Ldhx, Cphx}
use Rattle.isa.specs.declared.operation.Pointer.TheVariants.{Ais, Aix}
use Rattle.isa.specs.declared.operation.Standstill.TheVariants.{Stop, Wait, Bgnd}
use Rattle.isa.specs.declared.row.Mode.{Mode}
use Rattle.isa.specs.declared.row.Mode.TheVariants.{Inherent, InherentA, InherentX, Immediate, Relative}
use Rattle.isa.specs.declared.row.Page.{Page}
use Rattle.isa.specs.declared.row.Row.{Row}
use Rattle.state.specs.declared.live.Live.{Live}
use Rattle.state.specs.declared.registers.Registers.{Registers}
use Rattle.state.specs.declared.standing.Standing.TheVariants.{Running}
use Rattle.machine.specs.Execute as machine
use Rattle.machine.specs.Request as request
use Rattle.first_set.specs.Meaning.{carried_out, instruction, entered}

-- a running machine
abbrev pub running_with : Registers → ℕ → Live
running_with r lines = record { registers = r; standing = Running; lines = lines }

-- an operation in a mode is carried out alike, whatever its row says besides and wherever its operand bytes begin
abbrev pub SameCarriedOut : Operation → Mode → Type 0
SameCarriedOut operation mode =
    (bytes cycles operand : ℕ) (r : Registers) (lines : ℕ) →
    let row : Row = record { operation = operation; mode = mode; bytes = bytes; cycles = cycles } in
    machine.carried_out (running_with r lines) (record { row = row; operand = operand }) ≡ carried_out r lines row operand

-- each operation of the first set is carried out alike, in the modes that it has there
pub record SameOperations : Type 0 where
  pub branch : (condition : Condition) → SameCarriedOut (Branch condition) Relative
  pub combine : (operation : RegisterMemory) → SameCarriedOut (Combine operation) Immediate
  pub modify_a : (operation : ReadModifyWrite) → SameCarriedOut (Modify operation) InherentA
  pub modify_x : (operation : ReadModifyWrite) → SameCarriedOut (Modify operation) InherentX
  pub load : SameCarriedOut (Word Ldhx) Immediate
  pub compare : SameCarriedOut (Word Cphx) Immediate
  pub stack_pointer : SameCarriedOut (Displace Ais) Immediate
  pub index : SameCarriedOut (Displace Aix) Immediate
  pub register : (operation : RegisterOnly) → SameCarriedOut (Register operation) Inherent
  pub stop : SameCarriedOut (Rest Stop) Inherent
  pub wait : SameCarriedOut (Rest Wait) Inherent
  pub background : SameCarriedOut (Rest Bgnd) Inherent

-- each row of a table is lawful
abbrev pub Lawful : Table → Type 0
Lawful table = (page : Page) (opcode : ℕ) (row : Row) → table page opcode ≡ Some row → LawfulRow page row

-- the instructions of a table mean the same: their accesses, and what they leave
abbrev pub SameInstructions : Table → Type 0
SameInstructions table =
    (r : Registers) (lines : ℕ) → machine.instruction table (running_with r lines) ≡ instruction table r lines

-- the entry of a request means the same, however the machine stands
abbrev pub SameEntry : Type 0
SameEntry = (figure : ℕ) (live : Live) → request.entered figure live ≡ entered figure live.registers live.lines
