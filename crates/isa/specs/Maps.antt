-- The opcode maps: which operation in which mode stands at each opcode, sixteen opcodes to a line, and the operand bytes.
use Rattle.std.specs.Prelude.{ℕ, ◌+◌, ◌/◌, ◌%◌, List, [], ◌∷◌, replicate, Some, None, Option, slice_index_or}
use Rattle.isa.specs.declared.operation.Condition.{Condition}
use Rattle.isa.specs.declared.operation.Condition.TheVariants.{Bra, Brn, Bhi, Bls, Bcc, Bcs, Bne, Beq, Bhcc, Bhcs, Bpl, Bmi, Bmc, Bms, Bil, Bih, Bge, Blt, Bgt, Ble}
use Rattle.isa.specs.declared.operation.BitNumber.{BitNumber}
use Rattle.isa.specs.declared.operation.BitNumber.TheVariants.{B0, B1, B2, B3, B4, B5, B6, B7}
use Rattle.isa.specs.declared.operation.BitBranch.TheVariants.{Brset, Brclr}
use Rattle.isa.specs.declared.operation.BitChange.TheVariants.{Bset, Bclr}
use Rattle.isa.specs.declared.operation.RegisterMemory.{RegisterMemory}
use Rattle.isa.specs.declared.operation.RegisterMemory.TheVariants.{Sub, Cmp, Sbc, Cpx, And, Bit, Lda, Eor, Adc, Ora, Add, Ldx}
use Rattle.isa.specs.declared.operation.RegisterStore.{RegisterStore}
use Rattle.isa.specs.declared.operation.RegisterStore.TheVariants.{Sta, Stx}
use Rattle.isa.specs.declared.operation.ReadModifyWrite.{ReadModifyWrite}
use Rattle.isa.specs.declared.operation.ReadModifyWrite.TheVariants.{Neg, Com, Lsr, Ror, Asr, Lsl, Rol, Dec, Inc, Tst, Clr}
use Rattle.isa.specs.declared.operation.CompareBranch.{CompareBranch}
use Rattle.isa.specs.declared.operation.CompareBranch.TheVariants.{Cbeq, Cbeqa, Cbeqx}
use Rattle.isa.specs.declared.operation.WordOperation.{WordOperation}
use Rattle.isa.specs.declared.operation.WordOperation.TheVariants.{Ldhx, Cphx, Sthx}
use Rattle.isa.specs.declared.operation.Pointer.{Pointer}
use Rattle.isa.specs.declared.operation.Pointer.TheVariants.{Ais, Aix}
use Rattle.isa.specs.declared.operation.Jump.{Jump}
use Rattle.isa.specs.declared.operation.Jump.TheVariants.{Jmp, Jsr, Bsr}
use Rattle.isa.specs.declared.operation.Return.{Return}
use Rattle.isa.specs.declared.operation.Return.TheVariants.{Rts, Rti}
use Rattle.isa.specs.declared.operation.StackOperation.{StackOperation}
use Rattle.isa.specs.declared.operation.StackOperation.TheVariants.{Psha, Pula, Pshx, Pulx, Pshh, Pulh}
use Rattle.isa.specs.declared.operation.RegisterOnly.{RegisterOnly}
use Rattle.isa.specs.declared.operation.RegisterOnly.TheVariants.{Mul, Div, Nsa, Daa, Tap, Tpa, Clrh, Txs, Tsx, Tax, Txa, Clc, Sec, Cli, Sei, Rsp, Nop}
use Rattle.isa.specs.declared.operation.Standstill.{Standstill}
use Rattle.isa.specs.declared.operation.Standstill.TheVariants.{Stop, Wait, Bgnd}
use Rattle.isa.specs.declared.operation.Operation.{Operation}
use Rattle.isa.specs.declared.operation.Operation.TheVariants.{Branch, BranchOnBit, ChangeBit, Combine, Store, Modify, CompareAndBranch, DecrementAndBranch, Move, Word, Displace, Transfer, GoBack, SoftwareInterrupt, Stack, Register, Rest}
use Rattle.isa.specs.declared.row.Mode.{Mode}
use Rattle.isa.specs.declared.row.Mode.TheVariants.{Inherent, InherentA, InherentX, Immediate, Direct, Extended, Indexed2, Indexed1, Indexed, Stack2, Stack1, Relative, Indexed1Plus, IndexedPlus, DirectDirect, DirectIndexedPlus, ImmediateDirect, IndexedPlusDirect}
use Rattle.isa.specs.declared.row.Page.{Page}
use Rattle.isa.specs.declared.row.Page.TheVariants.{First, Second}

-- a place of a map: blank, or an operation in a mode
abbrev pub Place : Type 0
Place = Option (Operation × Mode)

-- an opcode map gives each opcode of each page its place
abbrev pub Map : Type 0
Map = Page → ℕ → Place

-- what a map makes of a place that the HCS08 alone fills, which the lines mark with `own`
abbrev pub Own : Type 0
Own = Place → Place

-- a blank place
abbrev pub ·· : Place
·· = None

-- a branch to an offset
abbrev pub rel : Condition → Place
rel c = Some (Branch c, Relative)

-- a branch on a bit of a direct byte that is set
abbrev pub brset : BitNumber → Place
brset b = Some (BranchOnBit (Brset b), Direct)

-- a branch on a bit of a direct byte that is clear
abbrev pub brclr : BitNumber → Place
brclr b = Some (BranchOnBit (Brclr b), Direct)

-- a bit of a direct byte set
abbrev pub bset : BitNumber → Place
bset b = Some (ChangeBit (Bset b), Direct)

-- a bit of a direct byte cleared
abbrev pub bclr : BitNumber → Place
bclr b = Some (ChangeBit (Bclr b), Direct)

-- a register combined with an operand byte
abbrev pub reg : RegisterMemory → Mode → Place
reg o m = Some (Combine o, m)

-- a register stored
abbrev pub sto : RegisterStore → Mode → Place
sto o m = Some (Store o, m)

-- a byte read, changed and put back
abbrev pub rmw : ReadModifyWrite → Mode → Place
rmw o m = Some (Modify o, m)

-- a branch where a register equals the operand byte
abbrev pub cbeq : CompareBranch → Mode → Place
cbeq o m = Some (CompareAndBranch o, m)

-- DBNZ
abbrev pub dbnz : Mode → Place
dbnz m = Some (DecrementAndBranch, m)

-- MOV
abbrev pub mov : Mode → Place
mov m = Some (Move, m)

-- H:X with an operand word
abbrev pub hx : WordOperation → Mode → Place
hx o m = Some (Word o, m)

-- a pointer moved by the byte after the opcode
abbrev pub ptr : Pointer → Place
ptr p = Some (Displace p, Immediate)

-- the program goes on elsewhere
abbrev pub jump : Jump → Mode → Place
jump j m = Some (Transfer j, m)

-- the way back
abbrev pub back : Return → Place
back r = Some (GoBack r, Inherent)

-- SWI
abbrev pub swi : Place
swi = Some (SoftwareInterrupt, Inherent)

-- a register onto the stack, or from it
abbrev pub stk : StackOperation → Place
stk o = Some (Stack o, Inherent)

-- registers and flags alone
abbrev pub inh : RegisterOnly → Place
inh o = Some (Register o, Inherent)

-- the processor comes to rest
abbrev pub rest : Standstill → Place
rest o = Some (Rest o, Inherent)

-- sixteen blank places
abbrev pub blanks : List Place
blanks = replicate 16 ··

-- a line of read-modify-write operations and DBNZ, in one mode but for four places
abbrev pub modifying : Mode → Place → Place → Place → Place → List Place
modifying m at_1 at-2 at_5 at-E =
    rmw Neg m ∷ at_1 ∷ at-2 ∷ rmw Com m ∷ rmw Lsr m ∷ at_5 ∷ rmw Ror m ∷ rmw Asr m ∷ rmw Lsl m ∷ rmw Rol m ∷ rmw Dec m ∷ dbnz m ∷ rmw Inc m ∷ rmw Tst m ∷ at-E ∷ rmw Clr m ∷ []

-- a line of register and memory operations, in one mode but for four places
abbrev pub combining : Mode → Place → Place → Place → Place → List Place
combining m at_7 at-C at-D at-F =
    reg Sub m ∷ reg Cmp m ∷ reg Sbc m ∷ reg Cpx m ∷ reg And m ∷ reg Bit m ∷ reg Lda m ∷ at_7 ∷ reg Eor m ∷ reg Adc m ∷ reg Ora m ∷ reg Add m ∷ at-C ∷ at-D ∷ reg Ldx m ∷ at-F ∷ []

-- such a line with stores and jumps
abbrev pub jumping : Mode → List Place
jumping m = combining m (sto Sta m) (jump Jmp m) (jump Jsr m) (sto Stx m)

-- such a line with stores alone
abbrev pub storing : Mode → List Place
storing m = combining m (sto Sta m) ·· ·· (sto Stx m)

-- a line with LDHX alone
abbrev pub loading : Own → Mode → List Place
loading own m = ·· ∷ ·· ∷ ·· ∷ ·· ∷ ·· ∷ ·· ∷ ·· ∷ ·· ∷ ·· ∷ ·· ∷ ·· ∷ ·· ∷ ·· ∷ ·· ∷ own (hx Ldhx m) ∷ ·· ∷ []

-- $00 to $0F: branches on a bit
abbrev pub line_0 : List Place
line_0 = brset B0 ∷ brclr B0 ∷ brset B1 ∷ brclr B1 ∷ brset B2 ∷ brclr B2 ∷ brset B3 ∷ brclr B3 ∷ brset B4 ∷ brclr B4 ∷ brset B5 ∷ brclr B5 ∷ brset B6 ∷ brclr B6 ∷ brset B7 ∷ brclr B7 ∷ []

-- $10 to $1F: bits set and cleared
abbrev pub line_1 : List Place
line_1 = bset B0 ∷ bclr B0 ∷ bset B1 ∷ bclr B1 ∷ bset B2 ∷ bclr B2 ∷ bset B3 ∷ bclr B3 ∷ bset B4 ∷ bclr B4 ∷ bset B5 ∷ bclr B5 ∷ bset B6 ∷ bclr B6 ∷ bset B7 ∷ bclr B7 ∷ []

-- $20 to $2F: branches
abbrev pub line_2 : List Place
line_2 = rel Bra ∷ rel Brn ∷ rel Bhi ∷ rel Bls ∷ rel Bcc ∷ rel Bcs ∷ rel Bne ∷ rel Beq ∷ rel Bhcc ∷ rel Bhcs ∷ rel Bpl ∷ rel Bmi ∷ rel Bmc ∷ rel Bms ∷ rel Bil ∷ rel Bih ∷ []

-- $30 to $3F: a direct byte changed
abbrev pub line_3 : Own → List Place
line_3 own = modifying Direct (cbeq Cbeq Direct) (own (hx Ldhx Extended)) (hx Sthx Direct) (own (hx Cphx Extended))

-- $40 to $4F: the accumulator changed
abbrev pub line_4 : List Place
line_4 = modifying InherentA (cbeq Cbeqa Immediate) (inh Mul) (hx Ldhx Immediate) (mov DirectDirect)

-- $50 to $5F: X changed
abbrev pub line_5 : List Place
line_5 = modifying InherentX (cbeq Cbeqx Immediate) (inh Div) (hx Ldhx Direct) (mov DirectIndexedPlus)

-- $60 to $6F: a byte at H:X plus a byte changed
abbrev pub line_6 : List Place
line_6 = modifying Indexed1 (cbeq Cbeq Indexed1Plus) (inh Nsa) (hx Cphx Immediate) (mov ImmediateDirect)

-- $70 to $7F: a byte at H:X changed
abbrev pub line_7 : List Place
line_7 = modifying Indexed (cbeq Cbeq IndexedPlus) (inh Daa) (hx Cphx Direct) (mov IndexedPlusDirect)

-- $80 to $8F: control
abbrev pub line_8 : Own → List Place
line_8 own = back Rti ∷ back Rts ∷ own (rest Bgnd) ∷ swi ∷ inh Tap ∷ inh Tpa ∷ stk Pula ∷ stk Psha ∷ stk Pulx ∷ stk Pshx ∷ stk Pulh ∷ stk Pshh ∷ inh Clrh ∷ ·· ∷ rest Stop ∷ rest Wait ∷ []

-- $90 to $9F: signed branches, transfers and flags; $9E leads to the second page
abbrev pub line_9 : Own → List Place
line_9 own = rel Bge ∷ rel Blt ∷ rel Bgt ∷ rel Ble ∷ inh Txs ∷ inh Tsx ∷ own (hx Sthx Extended) ∷ inh Tax ∷ inh Clc ∷ inh Sec ∷ inh Cli ∷ inh Sei ∷ inh Rsp ∷ inh Nop ∷ ·· ∷ inh Txa ∷ []

-- $A0 to $AF: immediate operands, and BSR
abbrev pub line_A : List Place
line_A = combining Immediate (ptr Ais) ·· (jump Bsr Relative) (ptr Aix)

-- $9E60 to $9E6F: a byte on the stack changed
abbrev pub line_9E6 : List Place
line_9E6 = modifying Stack1 (cbeq Cbeq Stack1) ·· ·· ··

-- $9EF0 to $9EFF: H:X with a word on the stack
abbrev pub line_9EF : Own → List Place
line_9EF own = ·· ∷ ·· ∷ ·· ∷ own (hx Cphx Stack1) ∷ ·· ∷ ·· ∷ ·· ∷ ·· ∷ ·· ∷ ·· ∷ ·· ∷ ·· ∷ ·· ∷ ·· ∷ own (hx Ldhx Stack1) ∷ own (hx Sthx Stack1) ∷ []

-- the sixteen lines of the first page
abbrev pub first_page : Own → List (List Place)
first_page own =
    line_0 ∷ line_1 ∷ line_2 ∷ line_3 own ∷ line_4 ∷ line_5 ∷ line_6 ∷ line_7 ∷ line_8 own ∷ line_9 own ∷ line_A ∷ jumping Direct ∷ jumping Extended ∷ jumping Indexed2 ∷ jumping Indexed1 ∷ jumping Indexed ∷ []

-- the sixteen lines of the second page
abbrev pub second_page : Own → List (List Place)
second_page own =
    blanks ∷ blanks ∷ blanks ∷ blanks ∷ blanks ∷ blanks ∷ line_9E6 ∷ blanks ∷ blanks ∷ blanks ∷ loading own Indexed ∷ loading own Indexed2 ∷ loading own Indexed1 ∷ storing Stack2 ∷ storing Stack1 ∷ line_9EF own ∷ []

-- the lines of a page
abbrev pub page_of : Own → Page → List (List Place)
page_of own First = first_page own
page_of own Second = second_page own

-- the place of an opcode in the lines of a page
abbrev pub place : List (List Place) → ℕ → Place
place page opcode = slice_index_or (slice_index_or page (opcode / 16) []) (opcode % 16) ··

-- the CPU08's map: blank where the HCS08 alone has an instruction
abbrev pub cpu08_map : Map
cpu08_map page opcode = place (page_of (λ p. ··) page) opcode

-- the HCS08's map
abbrev pub hcs08_map : Map
hcs08_map page opcode = place (page_of (λ p. p) page) opcode

-- the operand bytes of a mode, given those of an immediate operand
abbrev pub mode_bytes : ℕ → Mode → ℕ
mode_bytes immediate Inherent = 0
mode_bytes immediate InherentA = 0
mode_bytes immediate InherentX = 0
mode_bytes immediate Immediate = immediate
mode_bytes immediate Direct = 1
mode_bytes immediate Extended = 2
mode_bytes immediate Indexed2 = 2
mode_bytes immediate Indexed1 = 1
mode_bytes immediate Indexed = 0
mode_bytes immediate Stack2 = 2
mode_bytes immediate Stack1 = 1
mode_bytes immediate Relative = 1
mode_bytes immediate Indexed1Plus = 1
mode_bytes immediate IndexedPlus = 0
mode_bytes immediate DirectDirect = 2
mode_bytes immediate DirectIndexedPlus = 1
mode_bytes immediate ImmediateDirect = 2
mode_bytes immediate IndexedPlusDirect = 1

-- the bytes behind the opcode: those of the mode, where H:X takes an immediate word, and the offset of a branch that has an operand too
abbrev pub operand_bytes : Operation → Mode → ℕ
operand_bytes (Branch c) m = mode_bytes 1 m
operand_bytes (BranchOnBit o) m = mode_bytes 1 m + 1
operand_bytes (ChangeBit o) m = mode_bytes 1 m
operand_bytes (Combine o) m = mode_bytes 1 m
operand_bytes (Store o) m = mode_bytes 1 m
operand_bytes (Modify o) m = mode_bytes 1 m
operand_bytes (CompareAndBranch o) m = mode_bytes 1 m + 1
operand_bytes DecrementAndBranch m = mode_bytes 1 m + 1
operand_bytes Move m = mode_bytes 1 m
operand_bytes (Word o) m = mode_bytes 2 m
operand_bytes (Displace p) m = mode_bytes 1 m
operand_bytes (Transfer j) m = mode_bytes 1 m
operand_bytes (GoBack r) m = mode_bytes 1 m
operand_bytes SoftwareInterrupt m = mode_bytes 1 m
operand_bytes (Stack o) m = mode_bytes 1 m
operand_bytes (Register o) m = mode_bytes 1 m
operand_bytes (Rest o) m = mode_bytes 1 m

-- the prefix byte of the second page
abbrev pub prefix_bytes : Page → ℕ
prefix_bytes First = 0
prefix_bytes Second = 1
