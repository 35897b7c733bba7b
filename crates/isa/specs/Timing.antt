-- The timing table: cycles by operation and mode, as CPU08 ⁄ HCS08 figures. A figure of 0 stands where a core has no such instruction.
use Rattle.std.specs.Prelude.{ℕ, cond, List, [], ◌∷◌, ◌==◌}
use Rattle.isa.specs.declared.operation.ReadModifyWrite.{ReadModifyWrite}
use Rattle.isa.specs.declared.operation.ReadModifyWrite.TheVariants.{Neg, Com, Lsr, Ror, Asr, Lsl, Rol, Dec, Inc, Tst, Clr}
use Rattle.isa.specs.declared.operation.WordOperation.{WordOperation}
use Rattle.isa.specs.declared.operation.WordOperation.TheVariants.{Ldhx, Cphx, Sthx}
use Rattle.isa.specs.declared.operation.Jump.{Jump}
use Rattle.isa.specs.declared.operation.Jump.TheVariants.{Jmp, Jsr, Bsr}
use Rattle.isa.specs.declared.operation.Return.{Return}
use Rattle.isa.specs.declared.operation.Return.TheVariants.{Rts, Rti}
use Rattle.isa.specs.declared.operation.StackOperation.{StackOperation}
use Rattle.isa.specs.declared.operation.StackOperation.TheVariants.{Psha, Pula, Pshx, Pulx, Pshh, Pulh}
use Rattle.isa.specs.declared.operation.RegisterOnly.{RegisterOnly}
use Rattle.isa.specs.declared.operation.RegisterOnly.TheVariants.{Mul, Div, Nsa, Daa, Tap, Tpa, Clrh, Txs, Tsx, Tax, Txa, Clc, Sec, Cli, Sei, Rsp, Nop}
use Rattle.isa.specs.declared.operation.Standstill.{Standstill}
use Rattle.isa.specs.declared.operation.Standstill.TheVariants.{Stop, Wait, Bgnd}
use Rattle.isa.specs.declared.operation.Operation.{Operation}
use Rattle.isa.specs.declared.operation.Operation.TheVariants.{Branch, BranchOnBit, ChangeBit, Combine, Store, Modify, CompareAndBranch, DecrementAndBranch, Move, Word, Displace, Transfer, GoBack, SoftwareInterrupt, Stack, Register, Rest}
use Rattle.isa.specs.declared.row.Mode.{Mode}
use Rattle.isa.specs.declared.row.Mode.TheVariants.{Inherent, InherentA, InherentX, Immediate, Direct, Extended, Indexed2, Indexed1, Indexed, Stack2, Stack1, Relative, Indexed1Plus, IndexedPlus, DirectDirect, DirectIndexedPlus, ImmediateDirect, IndexedPlusDirect}

-- a pair of figures
pub record Figures : Type 0 where
  pub cpu08 : ℕ
  pub hcs08 : ℕ

infix 70 ◌⁄◌
-- CPU08 ⁄ HCS08
abbrev pub ◌⁄◌ : ℕ → ℕ → Figures
a ⁄ b = record { cpu08 = a; hcs08 = b }

-- a number for each mode, to tell them apart
abbrev pub mode_number : Mode → ℕ
mode_number Inherent = 0
mode_number InherentA = 1
mode_number InherentX = 2
mode_number Immediate = 3
mode_number Direct = 4
mode_number Extended = 5
mode_number Indexed2 = 6
mode_number Indexed1 = 7
mode_number Indexed = 8
mode_number Stack2 = 9
mode_number Stack1 = 10
mode_number Relative = 11
mode_number Indexed1Plus = 12
mode_number IndexedPlus = 13
mode_number DirectDirect = 14
mode_number DirectIndexedPlus = 15
mode_number ImmediateDirect = 16
mode_number IndexedPlusDirect = 17

-- the figures that stand where the mode stands in the list; for a mode that is not there, and that no map has, 0 ⁄ 0
abbrev pub by_mode : List Mode → List Figures → Mode → Figures
by_mode [] figures m = 0 ⁄ 0
by_mode (mode ∷ modes) [] m = 0 ⁄ 0
by_mode (mode ∷ modes) (f ∷ figures) m = cond (mode_number mode == mode_number m) f (by_mode modes figures m)

-- the modes of read-modify-write operations
abbrev pub modify_modes : List Mode
modify_modes = Direct ∷ InherentA ∷ InherentX ∷ Indexed1 ∷ Indexed ∷ Stack1 ∷ []

-- NEG COM LSR ROR ASR LSL ROL DEC INC
abbrev pub change_figures : Mode → Figures
change_figures = by_mode modify_modes (4 ⁄ 5 ∷ 1 ⁄ 1 ∷ 1 ⁄ 1 ∷ 4 ⁄ 5 ∷ 3 ⁄ 4 ∷ 5 ⁄ 6 ∷ [])

-- TST
abbrev pub test_figures : Mode → Figures
test_figures = by_mode modify_modes (3 ⁄ 4 ∷ 1 ⁄ 1 ∷ 1 ⁄ 1 ∷ 3 ⁄ 4 ∷ 2 ⁄ 3 ∷ 4 ⁄ 5 ∷ [])

-- CLR
abbrev pub clear_figures : Mode → Figures
clear_figures = by_mode modify_modes (3 ⁄ 5 ∷ 1 ⁄ 1 ∷ 1 ⁄ 1 ∷ 3 ⁄ 5 ∷ 2 ⁄ 4 ∷ 4 ⁄ 6 ∷ [])

-- read-modify-write operations
abbrev pub modify_figures : ReadModifyWrite → Mode → Figures
modify_figures Neg = change_figures
modify_figures Com = change_figures
modify_figures Lsr = change_figures
modify_figures Ror = change_figures
modify_figures Asr = change_figures
modify_figures Lsl = change_figures
modify_figures Rol = change_figures
modify_figures Dec = change_figures
modify_figures Inc = change_figures
modify_figures Tst = test_figures
modify_figures Clr = clear_figures

-- CBEQ, CBEQA, CBEQX
abbrev pub compare_figures : Mode → Figures
compare_figures = by_mode (Direct ∷ Immediate ∷ Indexed1Plus ∷ IndexedPlus ∷ Stack1 ∷ []) (5 ⁄ 5 ∷ 4 ⁄ 4 ∷ 5 ⁄ 5 ∷ 4 ⁄ 5 ∷ 6 ⁄ 6 ∷ [])

-- DBNZ
abbrev pub decrement_figures : Mode → Figures
decrement_figures = by_mode modify_modes (5 ⁄ 7 ∷ 3 ⁄ 4 ∷ 3 ⁄ 4 ∷ 5 ⁄ 7 ∷ 4 ⁄ 6 ∷ 6 ⁄ 8 ∷ [])

-- MOV
abbrev pub move_figures : Mode → Figures
move_figures = by_mode (DirectDirect ∷ DirectIndexedPlus ∷ ImmediateDirect ∷ IndexedPlusDirect ∷ []) (5 ⁄ 5 ∷ 4 ⁄ 5 ∷ 4 ⁄ 4 ∷ 4 ⁄ 5 ∷ [])

-- SUB CMP SBC CPX AND BIT LDA EOR ADC ORA ADD LDX
abbrev pub combine_figures : Mode → Figures
combine_figures =
    by_mode (Immediate ∷ Direct ∷ Extended ∷ Indexed2 ∷ Indexed1 ∷ Indexed ∷ Stack2 ∷ Stack1 ∷ []) (2 ⁄ 2 ∷ 3 ⁄ 3 ∷ 4 ⁄ 4 ∷ 4 ⁄ 4 ∷ 3 ⁄ 3 ∷ 2 ⁄ 3 ∷ 5 ⁄ 5 ∷ 4 ⁄ 4 ∷ [])

-- STA STX
abbrev pub store_figures : Mode → Figures
store_figures = by_mode (Direct ∷ Extended ∷ Indexed2 ∷ Indexed1 ∷ Indexed ∷ Stack2 ∷ Stack1 ∷ []) (3 ⁄ 3 ∷ 4 ⁄ 4 ∷ 4 ⁄ 4 ∷ 3 ⁄ 3 ∷ 2 ⁄ 2 ∷ 5 ⁄ 5 ∷ 4 ⁄ 4 ∷ [])

-- H:X with an operand word
abbrev pub word_figures : WordOperation → Mode → Figures
word_figures Ldhx = by_mode (Immediate ∷ Direct ∷ Extended ∷ Indexed ∷ Indexed2 ∷ Indexed1 ∷ Stack1 ∷ []) (3 ⁄ 3 ∷ 4 ⁄ 4 ∷ 0 ⁄ 5 ∷ 0 ⁄ 5 ∷ 0 ⁄ 6 ∷ 0 ⁄ 5 ∷ 0 ⁄ 5 ∷ [])
word_figures Cphx = by_mode (Immediate ∷ Direct ∷ Extended ∷ Stack1 ∷ []) (3 ⁄ 3 ∷ 4 ⁄ 5 ∷ 0 ⁄ 6 ∷ 0 ⁄ 6 ∷ [])
word_figures Sthx = by_mode (Direct ∷ Extended ∷ Stack1 ∷ []) (4 ⁄ 4 ∷ 0 ⁄ 5 ∷ 0 ⁄ 5 ∷ [])

-- the modes of jumps
abbrev pub jump_modes : List Mode
jump_modes = Direct ∷ Extended ∷ Indexed2 ∷ Indexed1 ∷ Indexed ∷ []

-- JMP, JSR and BSR
abbrev pub jump_figures : Jump → Mode → Figures
jump_figures Jmp = by_mode jump_modes (2 ⁄ 3 ∷ 3 ⁄ 4 ∷ 4 ⁄ 4 ∷ 3 ⁄ 3 ∷ 2 ⁄ 3 ∷ [])
jump_figures Jsr = by_mode jump_modes (4 ⁄ 5 ∷ 5 ⁄ 6 ∷ 6 ⁄ 6 ∷ 5 ⁄ 5 ∷ 4 ⁄ 5 ∷ [])
jump_figures Bsr = by_mode (Relative ∷ []) (4 ⁄ 5 ∷ [])

-- the way back
abbrev pub return_figures : Return → Figures
return_figures Rti = 7 ⁄ 9
return_figures Rts = 4 ⁄ 6

-- pulls and pushes
abbrev pub stack_figures : StackOperation → Figures
stack_figures Pula = 2 ⁄ 3
stack_figures Pulx = 2 ⁄ 3
stack_figures Pulh = 2 ⁄ 3
stack_figures Psha = 2 ⁄ 2
stack_figures Pshx = 2 ⁄ 2
stack_figures Pshh = 2 ⁄ 2

-- registers and flags alone
abbrev pub register_figures : RegisterOnly → Figures
register_figures Mul = 5 ⁄ 5
register_figures Div = 7 ⁄ 6
register_figures Nsa = 3 ⁄ 1
register_figures Daa = 2 ⁄ 1
register_figures Tap = 2 ⁄ 1
register_figures Cli = 2 ⁄ 1
register_figures Sei = 2 ⁄ 1
register_figures Txs = 2 ⁄ 2
register_figures Tsx = 2 ⁄ 2
register_figures Tpa = 1 ⁄ 1
register_figures Clrh = 1 ⁄ 1
register_figures Tax = 1 ⁄ 1
register_figures Txa = 1 ⁄ 1
register_figures Clc = 1 ⁄ 1
register_figures Sec = 1 ⁄ 1
register_figures Rsp = 1 ⁄ 1
register_figures Nop = 1 ⁄ 1

-- coming to rest
abbrev pub rest_figures : Standstill → Figures
rest_figures Stop = 1 ⁄ 2
rest_figures Wait = 1 ⁄ 2
rest_figures Bgnd = 0 ⁄ 5

-- entering an interrupt request
abbrev pub entry_figures : Figures
entry_figures = 9 ⁄ 11

-- every instruction's figures; SWI takes as long as the entry of a request
abbrev pub figures : Operation → Mode → Figures
figures (Branch c) m = 3 ⁄ 3
figures (BranchOnBit o) m = 5 ⁄ 5
figures (ChangeBit o) m = 4 ⁄ 5
figures (Combine o) m = combine_figures m
figures (Store o) m = store_figures m
figures (Modify o) m = modify_figures o m
figures (CompareAndBranch o) m = compare_figures m
figures DecrementAndBranch m = decrement_figures m
figures Move m = move_figures m
figures (Word o) m = word_figures o m
figures (Displace p) m = 2 ⁄ 2
figures (Transfer j) m = jump_figures j m
figures (GoBack r) m = return_figures r
figures SoftwareInterrupt m = entry_figures
figures (Stack o) m = stack_figures o
figures (Register o) m = register_figures o
figures (Rest o) m = rest_figures o
