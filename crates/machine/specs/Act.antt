-- What each operation does, once its operand was found.
use Rattle.std.specs.Prelude.{ℕ, Ok, Err, Result}
use Rattle.access.specs.declared.fault.Fault.{Fault}
use Rattle.isa.specs.declared.operation.Operation.{Operation}
use Rattle.isa.specs.declared.operation.Operation.TheVariants.{Branch, BranchOnBit, ChangeBit, Combine, Store, Modify, CompareAndBranch, DecrementAndBranch, Move, Word, Displace, Transfer, GoBack, SoftwareInterrupt, Stack, Register, Rest}
use Rattle.state.specs.declared.registers.Registers.{Registers}
use Rattle.state.specs.declared.standing.Standing.{Standing}
use Rattle.access.specs.Access.{Access, done, ◌>>=◌}
use Rattle.effects.specs.Branch.{taken, branched_to}
use Rattle.effects.specs.RegisterOnly.{registered}
use Rattle.effects.specs.Rest.{rested, stands_at}
use Rattle.operands.specs.declared.address.Operand.{Operand}
use Rattle.flow.specs.Bits.{bit_tested}
use Rattle.rewrites.specs.Bits.{memory_bit_changed}
use Rattle.operations.specs.Combine.{operand_combined, pointer_displaced}
use Rattle.flow.specs.Compare.{branched_where_equal}
use Rattle.calls.specs.Interrupt.{swi}
use Rattle.calls.specs.Jumps.{jumped}
use Rattle.flow.specs.Loops.{decremented}
use Rattle.rewrites.specs.Modify.{operand_modified}
use Rattle.rewrites.specs.Moves.{byte_moved}
use Rattle.calls.specs.Returns.{returned}
use Rattle.calls.specs.Stack.{stacked}
use Rattle.operations.specs.Stores.{register_stored}
use Rattle.operations.specs.Words.{worded}

-- the accesses of an operation, and the registers that it leaves; the program counter is already at the next instruction
abbrev pub acted : Operation → Operand → Registers → ℕ → Access Registers
acted (Branch condition) operand r lines = done (branched_to (taken condition r.flags lines) operand.address r)
acted (BranchOnBit branch) operand r lines = bit_tested branch operand r
acted (ChangeBit change) operand r lines = memory_bit_changed change operand.address >>= (λ _. done r)
acted (Combine o) operand r lines = operand_combined o operand.address r
acted (Store o) operand r lines = register_stored o operand.address r
acted (Modify o) operand r lines = operand_modified o operand r
acted (CompareAndBranch o) operand r lines = branched_where_equal o operand r
acted DecrementAndBranch operand r lines = decremented operand r
acted Move operand r lines = byte_moved operand r
acted (Word o) operand r lines = worded o operand.address r
acted (Displace pointer) operand r lines = pointer_displaced pointer operand.address r
acted (Transfer way) operand r lines = jumped way operand.address r
acted (GoBack way) operand r lines = returned way r
acted SoftwareInterrupt operand r lines = swi r
acted (Stack o) operand r lines = stacked o r
acted (Register o) operand r lines = done (registered o r)
acted (Rest standstill) operand r lines = done (rested standstill r)

-- how the machine stands after an operation: as before, unless the operation brings it to rest
abbrev pub stands_after : Operation → Standing → Standing
stands_after (Branch condition) s = s
stands_after (BranchOnBit branch) s = s
stands_after (ChangeBit change) s = s
stands_after (Combine o) s = s
stands_after (Store o) s = s
stands_after (Modify o) s = s
stands_after (CompareAndBranch o) s = s
stands_after DecrementAndBranch s = s
stands_after Move s = s
stands_after (Word o) s = s
stands_after (Displace pointer) s = s
stands_after (Transfer way) s = s
stands_after (GoBack way) s = s
stands_after SoftwareInterrupt s = s
stands_after (Stack o) s = s
stands_after (Register o) s = s
stands_after (Rest standstill) s = stands_at standstill

-- a fault leaves the machine standing as before
abbrev pub stands : Result Unit Fault → Operation → Standing → Standing
stands (Ok _) operation s = stands_after operation s
stands (Err _) operation s = s
