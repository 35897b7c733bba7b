-- The pointers: AIS and AIX, and H:X that goes on.
use Rattle.std.specs.Prelude.{ℕ, Bool, true, false, cond}
use Rattle.alu.specs.Addresses.{after, displaced_by}
use Rattle.isa.specs.declared.operation.Pointer.{Pointer}
use Rattle.isa.specs.declared.operation.Pointer.TheVariants.{Ais, Aix}
use Rattle.isa.specs.declared.row.Mode.{Mode}
use Rattle.isa.specs.declared.row.Mode.TheVariants.{Inherent, InherentA, InherentX, Immediate, Direct, Extended, Indexed2, Indexed1, Indexed, Stack2, Stack1, Relative, Indexed1Plus, IndexedPlus, DirectDirect, DirectIndexedPlus, ImmediateDirect, IndexedPlusDirect}
use Rattle.state.specs.declared.registers.Registers.{Registers}
use Rattle.state.specs.Registers.{hx, with_hx, with_sp}

-- AIS and AIX add a signed byte to SP and to H:X
abbrev pub displacing : Pointer → ℕ → Registers → Registers
displacing Ais offset r = with_sp (displaced_by r.sp offset) r
displacing Aix offset r = with_hx (displaced_by (hx r) offset) r

-- whether H:X goes on by 1
abbrev pub goes_on : Mode → Bool
goes_on Inherent = false
goes_on InherentA = false
goes_on InherentX = false
goes_on Immediate = false
goes_on Direct = false
goes_on Extended = false
goes_on Indexed2 = false
goes_on Indexed1 = false
goes_on Indexed = false
goes_on Stack2 = false
goes_on Stack1 = false
goes_on Relative = false
goes_on Indexed1Plus = true
goes_on IndexedPlus = true
goes_on DirectDirect = false
goes_on DirectIndexedPlus = true
goes_on ImmediateDirect = false
goes_on IndexedPlusDirect = true

-- the registers with H:X gone on by 1, in the modes that say so
abbrev pub went_on : Mode → Registers → Registers
went_on mode r = cond (goes_on mode) (with_hx (after (hx r) 1) r) r
