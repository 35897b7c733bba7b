-- The addressing modes: from the operand bytes to the operand's address.
use Rattle.std.specs.Prelude.{ℕ, zero, suc}
use Rattle.alu.specs.Addresses.{after, displaced_by}
use Rattle.isa.specs.declared.row.Mode.{Mode}
use Rattle.isa.specs.declared.row.Mode.TheVariants.{Inherent, InherentA, InherentX, Immediate, Direct, Extended, Indexed2, Indexed1, Indexed, Stack2, Stack1, Relative, Indexed1Plus, IndexedPlus, DirectDirect, DirectIndexedPlus, ImmediateDirect, IndexedPlusDirect}
use Rattle.state.specs.declared.registers.Registers.{Registers}
use Rattle.state.specs.Registers.{hx}
use Rattle.access.specs.Access.{Access, done, read, ◌>>=◌}
use Rattle.access.specs.Words.{fetch_word}
use Rattle.operands.specs.declared.address.Home.{Home}
use Rattle.operands.specs.declared.address.Home.TheVariants.{Accumulator, Index, Memory}
use Rattle.operands.specs.declared.address.Operand.{Operand}

-- how many operand bytes give the address
abbrev pub address_bytes : Mode → ℕ
address_bytes Inherent = 0
address_bytes InherentA = 0
address_bytes InherentX = 0
address_bytes Immediate = 0
address_bytes Direct = 1
address_bytes Extended = 2
address_bytes Indexed2 = 2
address_bytes Indexed1 = 1
address_bytes Indexed = 0
address_bytes Stack2 = 2
address_bytes Stack1 = 1
address_bytes Relative = 1
address_bytes Indexed1Plus = 1
address_bytes IndexedPlus = 0
address_bytes DirectDirect = 1
address_bytes DirectIndexedPlus = 1
address_bytes ImmediateDirect = 0
address_bytes IndexedPlusDirect = 0

-- the number that so many operand bytes spell, read from where they begin
abbrev pub fetched : ℕ → ℕ → Access ℕ
fetched zero at = done 0
fetched (suc zero) at = read at done
fetched (suc (suc n)) at = fetch_word at

-- the address that a mode reaches by the number n of its operand bytes, which begin at `at`; the program counter is at the
-- next instruction. The operand of an immediate mode stands among the operand bytes, that of an inherent one nowhere.
abbrev pub addressed : Mode → ℕ → ℕ → Registers → ℕ
addressed Inherent at n r = at
addressed InherentA at n r = at
addressed InherentX at n r = at
addressed Immediate at n r = at
addressed Direct at n r = n
addressed Extended at n r = n
addressed Indexed2 at n r = after (hx r) n
addressed Indexed1 at n r = after (hx r) n
addressed Indexed at n r = hx r
addressed Stack2 at n r = after r.sp n
addressed Stack1 at n r = after r.sp n
addressed Relative at n r = displaced_by r.pc n
addressed Indexed1Plus at n r = after (hx r) n
addressed IndexedPlus at n r = hx r
addressed DirectDirect at n r = n
addressed DirectIndexedPlus at n r = n
addressed ImmediateDirect at n r = at
addressed IndexedPlusDirect at n r = hx r

-- the operand's address, from the operand bytes that begin at `at`
abbrev pub reached : Mode → ℕ → Registers → Access ℕ
reached mode at r = fetched (address_bytes mode) at >>= (λ n. done (addressed mode at n r))

-- where the byte stands that follows the operand's address
abbrev pub behind : Operand → ℕ
behind operand = after operand.bytes (address_bytes operand.mode)

-- where an operand lies: A and X hold the operands of their own modes
abbrev pub home_of : Mode → Home
home_of Inherent = Memory
home_of InherentA = Accumulator
home_of InherentX = Index
home_of Immediate = Memory
home_of Direct = Memory
home_of Extended = Memory
home_of Indexed2 = Memory
home_of Indexed1 = Memory
home_of Indexed = Memory
home_of Stack2 = Memory
home_of Stack1 = Memory
home_of Relative = Memory
home_of Indexed1Plus = Memory
home_of IndexedPlus = Memory
home_of DirectDirect = Memory
home_of DirectIndexedPlus = Memory
home_of ImmediateDirect = Memory
home_of IndexedPlusDirect = Memory
