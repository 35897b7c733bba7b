-- The branches.
use Rattle.std.specs.Prelude.{ℕ, Bool, true, false, cond, not, ◌||◌}
use Rattle.alu.specs.declared.flags.Flags.{Flags}
use Rattle.alu.specs.Addresses.{displaced_by}
use Rattle.alu.specs.Flags.{unlike}
use Rattle.isa.specs.declared.operation.Condition.{Condition}
use Rattle.isa.specs.declared.operation.Condition.TheVariants.{Bra, Brn, Bhi, Bls, Bcc, Bcs, Bne, Beq, Bhcc, Bhcs, Bpl, Bmi, Bmc, Bms, Bil, Bih, Bge, Blt, Bgt, Ble}
use Rattle.state.specs.declared.registers.Registers.{Registers}
use Rattle.state.specs.Registers.{with_pc}
use Rattle.state.specs.Lines.{is_raised}

-- whether a branch is taken, by the flags and, for BIL and BIH, by line 2
abbrev pub taken : Condition → Flags → ℕ → Bool
taken Bra f lines = true
taken Brn f lines = false
taken Bhi f lines = not (f.c || f.z)
taken Bls f lines = f.c || f.z
taken Bcc f lines = not f.c
taken Bcs f lines = f.c
taken Bne f lines = not f.z
taken Beq f lines = f.z
taken Bhcc f lines = not f.h
taken Bhcs f lines = f.h
taken Bpl f lines = not f.n
taken Bmi f lines = f.n
taken Bmc f lines = not f.i
taken Bms f lines = f.i
taken Bil f lines = is_raised lines 2
taken Bih f lines = not (is_raised lines 2)
taken Bge f lines = not (unlike f.n f.v)
taken Blt f lines = unlike f.n f.v
taken Bgt f lines = not (f.z || unlike f.n f.v)
taken Ble f lines = f.z || unlike f.n f.v

-- a branch that is taken goes on at its target
abbrev pub branched_to : Bool → ℕ → Registers → Registers
branched_to taken target r = cond taken (with_pc target r) r

-- a branch to a signed offset from the next instruction
abbrev pub branched_by : Bool → ℕ → Registers → Registers
branched_by taken offset r = branched_to taken (displaced_by r.pc offset) r
