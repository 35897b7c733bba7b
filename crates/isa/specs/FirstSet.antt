-- The first set of instructions: those without an operand in memory, a call or the stack.
use Rattle.std.specs.Prelude.{◌≡◌, ℕ, Bool, true, false, cond, Some, None, Option, ◌||◌, ◌==◌}
use Rattle.isa.specs.declared.operation.Operation.{Operation}
use Rattle.isa.specs.declared.operation.Operation.TheVariants.{Branch, BranchOnBit, ChangeBit, Combine, Store, Modify, CompareAndBranch, DecrementAndBranch, Move, Word, Displace, Transfer, GoBack, SoftwareInterrupt, Stack, Register, Rest}
use Rattle.isa.specs.declared.row.Mode.{Mode}
use Rattle.isa.specs.declared.row.Mode.TheVariants.{InherentA, InherentX, Immediate}
use Rattle.isa.specs.declared.row.Page.{Page}
use Rattle.isa.specs.declared.row.Row.{Row}
use Rattle.isa.specs.Law.{Table}
use Rattle.isa.specs.Timing.{mode_number}

-- whether two modes are the same
abbrev pub same_mode : Mode → Mode → Bool
same_mode m n = mode_number m == mode_number n

-- the instructions without an operand in memory, without a call and without the stack
abbrev pub in_first_set : Operation → Mode → Bool
in_first_set (Branch c) m = true
in_first_set (BranchOnBit o) m = false
in_first_set (ChangeBit o) m = false
in_first_set (Combine o) m = same_mode m Immediate
in_first_set (Store o) m = false
in_first_set (Modify o) m = same_mode m InherentA || same_mode m InherentX
in_first_set (CompareAndBranch o) m = false
in_first_set DecrementAndBranch m = false
in_first_set Move m = false
in_first_set (Word o) m = same_mode m Immediate
in_first_set (Displace p) m = true
in_first_set (Transfer j) m = false
in_first_set (GoBack r) m = false
in_first_set SoftwareInterrupt m = false
in_first_set (Stack o) m = false
in_first_set (Register o) m = true
in_first_set (Rest o) m = true

-- a row of the first set, or none
abbrev pub if_first : Option Row → Option Row
if_first None = None
if_first (Some row) = cond (in_first_set row.operation row.mode) (Some row) None

-- a table's rows of the first set
abbrev pub first_set_of : Table → Table
first_set_of table page opcode = if_first (table page opcode)

-- two tables have the same row, or none, at every opcode
abbrev pub SameRows : Table → Table → Type 0
SameRows t u = (page : Page) (opcode : ℕ) → t page opcode ≡ u page opcode
