-- What an instruction and an interrupt request of the first set mean, told without the other instructions.
use Rattle.std.specs.Prelude.{ℕ, true, false, cond, Ok, Err, Result}
use Rattle.alu.specs.Addresses.{after, before, displaced_by}
use Rattle.alu.specs.Flags.{ccr_byte, with_i}
use Rattle.alu.specs.Logic.{test_of}
use Rattle.alu.specs.Sums.{difference_of}
use Rattle.alu.specs.Words.{word_of}
use Rattle.isa.specs.Law.{Table}
use Rattle.isa.specs.declared.operation.Condition.{Condition}
use Rattle.isa.specs.declared.operation.Operation.TheVariants.{Branch, BranchOnBit, ChangeBit, Combine, Store, Modify, CompareAndBranch, DecrementAndBranch, Move, Word, Displace, Transfer, GoBack, SoftwareInterrupt, Stack, Register, Rest}
use Rattle.isa.specs.declared.operation.ReadModifyWrite.{ReadModifyWrite}
use Rattle.isa.specs.declared.operation.WordOperation.{WordOperation}
use Rattle.isa.specs.declared.operation.WordOperation.TheVariants.{Ldhx, Cphx, Sthx}
use Rattle.isa.specs.declared.operation.Pointer.{Pointer}
use Rattle.isa.specs.declared.operation.Pointer.TheVariants.{Ais, Aix}
use Rattle.isa.specs.declared.operation.Standstill.{Standstill}
use Rattle.isa.specs.declared.operation.Standstill.TheVariants.{Stop, Wait, Bgnd}
use Rattle.isa.specs.declared.row.Mode.{Mode}
use Rattle.isa.specs.declared.row.Mode.TheVariants.{Inherent, InherentA, InherentX, Immediate, Direct, Extended, Indexed2, Indexed1, Indexed, Stack2, Stack1, Relative, Indexed1Plus, IndexedPlus, DirectDirect, DirectIndexedPlus, ImmediateDirect, IndexedPlusDirect}
use Rattle.isa.specs.declared.row.Row.{Row}
use Rattle.access.specs.declared.fault.Fault.{Fault}
use Rattle.access.specs.declared.fault.Fault.TheVariants.{NoInstruction}
use Rattle.access.specs.Access.{Access, done, fail, read, store, ◌>>=◌, answered}
use Rattle.access.specs.Words.{fetch_word, pushed_word}
use Rattle.state.specs.declared.registers.Registers.{Registers}
use Rattle.state.specs.declared.standing.Standing.{Standing}
use Rattle.state.specs.declared.standing.Standing.TheVariants.{Running, Waiting, Stopped, Halted}
use Rattle.state.specs.Lines.{served_line, vector_of}
use Rattle.state.specs.Registers.{with_a, with_x, with_hx, with_sp, with_pc, with_flags}
use Rattle.effects.specs.Branch.{taken}
use Rattle.effects.specs.Combine.{combined}
use Rattle.effects.specs.Modify.{modified}
use Rattle.effects.specs.RegisterOnly.{registered}
use Rattle.machine.specs.Decode.{decoded}
use Rattle.machine.specs.Execute.{Executed}

-- the operand byte of an instruction that takes one; a mode with no operand byte has none
abbrev pub operand_byte : Mode → ℕ → Access ℕ
operand_byte Inherent operand = fail
operand_byte InherentA operand = fail
operand_byte InherentX operand = fail
operand_byte Immediate operand = read operand done
operand_byte Direct operand = fail
operand_byte Extended operand = fail
operand_byte Indexed2 operand = fail
operand_byte Indexed1 operand = fail
operand_byte Indexed operand = fail
operand_byte Stack2 operand = fail
operand_byte Stack1 operand = fail
operand_byte Relative operand = read operand done
operand_byte Indexed1Plus operand = fail
operand_byte IndexedPlus operand = fail
operand_byte DirectDirect operand = fail
operand_byte DirectIndexedPlus operand = fail
operand_byte ImmediateDirect operand = fail
operand_byte IndexedPlusDirect operand = fail

-- a branch taken adds its offset to the address of the next instruction
abbrev pub branched : Condition → ℕ → Registers → ℕ → Registers
branched condition offset r lines = cond (taken condition r.flags lines) (with_pc (displaced_by r.pc offset) r) r

-- A or X changed in place; no other mode changes a register
abbrev pub placed : ReadModifyWrite → Mode → Registers → Result Registers Fault
placed o Inherent r = Err NoInstruction
placed o InherentA r = Ok (with_a (modified o r.a r.flags) r)
placed o InherentX r = Ok (with_x (modified o r.x r.flags) r)
placed o Immediate r = Err NoInstruction
placed o Direct r = Err NoInstruction
placed o Extended r = Err NoInstruction
placed o Indexed2 r = Err NoInstruction
placed o Indexed1 r = Err NoInstruction
placed o Indexed r = Err NoInstruction
placed o Stack2 r = Err NoInstruction
placed o Stack1 r = Err NoInstruction
placed o Relative r = Err NoInstruction
placed o Indexed1Plus r = Err NoInstruction
placed o IndexedPlus r = Err NoInstruction
placed o DirectDirect r = Err NoInstruction
placed o DirectIndexedPlus r = Err NoInstruction
placed o ImmediateDirect r = Err NoInstruction
placed o IndexedPlusDirect r = Err NoInstruction

-- LDHX loads the word and tests it, CPHX gives the flags of H:X less the word; STHX has no operand word
abbrev pub worded : WordOperation → ℕ → Registers → Result Registers Fault
worded Ldhx w r = Ok (with_flags (test_of 16 w r.flags).1 (with_hx w r))
worded Cphx w r = Ok (with_flags (difference_of 16 (word_of r.h r.x) w false r.flags).1 r)
worded Sthx w r = Err NoInstruction

-- AIS and AIX add a signed byte to SP and to H:X
abbrev pub displacing : Pointer → ℕ → Registers → Registers
displacing Ais offset r = with_sp (displaced_by r.sp offset) r
displacing Aix offset r = with_hx (displaced_by (word_of r.h r.x) offset) r

-- STOP and WAIT clear I; BGND halts
abbrev pub rested : Standstill → Registers → Registers × Standing
rested Stop r = (with_flags (with_i false r.flags) r, Stopped)
rested Wait r = (with_flags (with_i false r.flags) r, Waiting)
rested Bgnd r = (r, Halted)

-- the machine goes on running
abbrev pub running : Registers → Registers × Standing
running r = (r, Running)

-- the instruction of a row, whose operand bytes begin at `operand`, with the program counter already at the next one; no other
-- operation is of the first set
abbrev pub operated : Row → ℕ → Registers → ℕ → Access (Registers × Standing)
operated row operand r lines =
    elim row.operation [
      | Branch c ↦ operand_byte row.mode operand >>= (λ offset. done (running (branched c offset r lines)))
      | BranchOnBit o ↦ fail
      | ChangeBit o ↦ fail
      | Combine o ↦ operand_byte row.mode operand >>= (λ byte. done (running (combined o byte r)))
      | Store o ↦ fail
      | Modify o ↦ answered (placed o row.mode r) >>= (λ s. done (running s))
      | CompareAndBranch o ↦ fail
      | DecrementAndBranch ↦ fail
      | Move ↦ fail
      | Word o ↦ fetch_word operand >>= (λ word. answered (worded o word r) >>= (λ s. done (running s)))
      | Displace p ↦ operand_byte row.mode operand >>= (λ offset. done (running (displacing p offset r)))
      | Transfer j ↦ fail
      | GoBack w ↦ fail
      | SoftwareInterrupt ↦ fail
      | Stack o ↦ fail
      | Register o ↦ done (running (registered o r))
      | Rest o ↦ done (rested o r)
    ]

-- the registers with the program counter moved on to the next instruction
abbrev pub moved_on : Row → Registers → Registers
moved_on row r = with_pc (after r.pc row.bytes) r

-- what the instruction of a row leaves, at the row's cycles
abbrev pub finished : Row → Registers × Standing → Access Executed
finished row s = done (record { registers = s.0; standing = s.1; cycles = row.cycles })

-- the instruction of a row carried out
abbrev pub carried_out : Registers → ℕ → Row → ℕ → Access Executed
carried_out r lines row operand = operated row operand (moved_on row r) lines >>= finished row

-- the instruction at the program counter: decoded, then carried out
abbrev pub instruction : Table → Registers → ℕ → Access Executed
instruction table r lines = decoded table r.pc >>= (λ d. carried_out r lines d.row d.operand)

-- X, A and CCR on the stack
abbrev pub pushed_operands : ℕ → Registers → Access Unit
pushed_operands sp r =
    store sp r.x (store (before sp 1) r.a (store (before sp 2) (ccr_byte r.flags) (done tt)))

-- the frame of a request: PC low, PC high, X, A, CCR
abbrev pub pushed_frame : Registers → Access Unit
pushed_frame r = pushed_word r.sp r.pc >>= (λ _. pushed_operands (before r.sp 2) r)

-- the registers within the request: I set, the frame on the stack, the program counter from the vector
abbrev pub within : Registers → ℕ → Registers
within r pc = with_flags (with_i true r.flags) (with_sp (before r.sp 5) (with_pc pc r))

-- the served line's vector is read, and the machine runs there
abbrev pub vectored : ℕ → Registers → ℕ → Access Executed
vectored figure r lines =
    fetch_word (vector_of (served_line lines)) >>= (λ pc.
    done (record { registers = within r pc; standing = Running; cycles = figure }))

-- the frame is pushed before the vector is read
abbrev pub entered : ℕ → Registers → ℕ → Access Executed
entered figure r lines = pushed_frame r >>= (λ _. vectored figure r lines)
