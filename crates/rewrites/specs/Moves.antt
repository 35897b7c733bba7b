-- MOV.
use Rattle.std.specs.Prelude.{ℕ}
use Rattle.alu.specs.Addresses.{after}
use Rattle.isa.specs.declared.row.Mode.TheVariants.{Inherent, InherentA, InherentX, Immediate, Direct, Extended, Indexed2, Indexed1, Indexed, Stack2, Stack1, Relative, Indexed1Plus, IndexedPlus, DirectDirect, DirectIndexedPlus, ImmediateDirect, IndexedPlusDirect}
use Rattle.state.specs.declared.registers.Registers.{Registers}
use Rattle.state.specs.Registers.{hx, with_hx, tested}
use Rattle.access.specs.Access.{Access, done, fail, read, store}
use Rattle.operands.specs.declared.address.Operand.{Operand}
use Rattle.operands.specs.Leaves.{stored_and_tested}

-- the byte at `from` goes to the address that stands at `at`, which is read first
abbrev pub moved_to_direct : ℕ → ℕ → Registers → Access Registers
moved_to_direct at from r = read at (λ target. read from (λ b. stored_and_tested target b r))

-- the target's address is read before the byte
abbrev pub moved_direct : Operand → Registers → Access Registers
moved_direct operand r = moved_to_direct (after operand.bytes 1) operand.address r

-- the byte stands before the target's address
abbrev pub moved_immediate : Operand → Registers → Access Registers
moved_immediate operand r =
    read operand.address (λ b. read (after operand.bytes 1) (λ target. stored_and_tested target b r))

-- the byte goes where H:X points, and H:X goes on by 1
abbrev pub moved_to_index : Operand → Registers → Access Registers
moved_to_index operand r =
    read operand.address (λ b. store (hx r) b (done (with_hx (after (hx r) 1) (tested 8 b r))))

-- the byte comes from where H:X points, and H:X goes on by 1
abbrev pub moved_from_index : Operand → Registers → Access Registers
moved_from_index operand r =
    read operand.bytes (λ target.
    read operand.address (λ b. store target b (done (with_hx (after operand.address 1) (tested 8 b r)))))

-- a byte moved, in the four modes of MOV
abbrev pub byte_moved : Operand → Registers → Access Registers
byte_moved operand r =
    elim operand.mode [
      | Inherent ↦ fail
      | InherentA ↦ fail
      | InherentX ↦ fail
      | Immediate ↦ fail
      | Direct ↦ fail
      | Extended ↦ fail
      | Indexed2 ↦ fail
      | Indexed1 ↦ fail
      | Indexed ↦ fail
      | Stack2 ↦ fail
      | Stack1 ↦ fail
      | Relative ↦ fail
      | Indexed1Plus ↦ fail
      | IndexedPlus ↦ fail
      | DirectDirect ↦ moved_direct operand r
      | DirectIndexedPlus ↦ moved_to_index operand r
      | ImmediateDirect ↦ moved_immediate operand r
      | IndexedPlusDirect ↦ moved_from_index operand r
    ]
