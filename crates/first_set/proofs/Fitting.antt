-- The modes that the opcode maps give to the operations of the first set.
use Rattle.std.proofs.Common.{◌≡◌, ℕ, ◌/◌, ◌%◌, Bool, true, not, List, [], ◌∷◌, zero, suc, inl, inr, Some, None, slice_index_or, refl, ap, sym, ◌∙◌}
use Rattle.std.proofs.lemmas.Bool.{and_parts, eqb-true}
use Rattle.std.specs.List.{list_all}
use Rattle.isa.specs.declared.operation.Operation.{Operation}
use Rattle.isa.specs.declared.operation.Operation.TheVariants.{Branch, BranchOnBit, ChangeBit, Combine, Store, Modify, CompareAndBranch, DecrementAndBranch, Move, Word, Displace, Transfer, GoBack, SoftwareInterrupt, Stack, Register, Rest}
use Rattle.isa.specs.declared.operation.WordOperation.TheVariants.{Ldhx, Cphx, Sthx}
use Rattle.isa.specs.declared.row.Mode.{Mode}
use Rattle.isa.specs.declared.row.Mode.TheVariants.{Inherent, InherentA, InherentX, Immediate, Direct, Extended, Indexed2, Indexed1, Indexed, Stack2, Stack1, Relative, Indexed1Plus, IndexedPlus, DirectDirect, DirectIndexedPlus, ImmediateDirect, IndexedPlusDirect}
use Rattle.isa.specs.declared.row.Page.{Page}
use Rattle.isa.specs.declared.row.Page.TheVariants.{First, Second}
use Rattle.isa.specs.FirstSet.{same_mode}
use Rattle.isa.specs.Law.{Occurs}
use Rattle.isa.specs.Maps.{Place, Own, place, page_of, ··}
use Rattle.isa.specs.Timing.{mode_number}

-- the modes by their numbers
abbrev mode_of : ℕ → Mode
mode_of n =
    slice_index_or
    (Inherent ∷ InherentA ∷ InherentX ∷ Immediate ∷ Direct ∷ Extended ∷ Indexed2 ∷ Indexed1 ∷ Indexed ∷ Stack2 ∷ Stack1 ∷ Relative ∷ Indexed1Plus ∷ IndexedPlus ∷ DirectDirect ∷ DirectIndexedPlus ∷ ImmediateDirect ∷ IndexedPlusDirect ∷ [])
    n
    Inherent

numbered : (m : Mode) → mode_of (mode_number m) ≡ m
numbered Inherent = refl
numbered InherentA = refl
numbered InherentX = refl
numbered Immediate = refl
numbered Direct = refl
numbered Extended = refl
numbered Indexed2 = refl
numbered Indexed1 = refl
numbered Indexed = refl
numbered Stack2 = refl
numbered Stack1 = refl
numbered Relative = refl
numbered Indexed1Plus = refl
numbered IndexedPlus = refl
numbered DirectDirect = refl
numbered DirectIndexedPlus = refl
numbered ImmediateDirect = refl
numbered IndexedPlusDirect = refl

-- modes with one number are one mode
pub mode_told : (m n : Mode) → same_mode m n ≡ true → n ≡ m
mode_told m n e = sym (numbered n) ∙ ap mode_of (sym (eqb-true (mode_number m) (mode_number n) e)) ∙ numbered m

-- whether a map may give an operation that mode
abbrev pub fits : Operation → Mode → Bool
fits (Branch c) m = same_mode m Relative
fits (BranchOnBit o) m = true
fits (ChangeBit o) m = true
fits (Combine o) m = true
fits (Store o) m = true
fits (Modify o) m = true
fits (CompareAndBranch o) m = true
fits DecrementAndBranch m = true
fits Move m = true
fits (Word Ldhx) m = true
fits (Word Cphx) m = true
fits (Word Sthx) m = not (same_mode m Immediate)
fits (Displace p) m = same_mode m Immediate
fits (Transfer j) m = true
fits (GoBack w) m = true
fits SoftwareInterrupt m = true
fits (Stack o) m = true
fits (Register o) m = same_mode m Inherent
fits (Rest o) m = same_mode m Inherent

-- whether a place of a map fits
abbrev place_fits : Place → Bool
place_fits None = true
place_fits (Some p) = fits p.0 p.1

-- what passes at each element and at the default passes wherever the list is read
passes_at : {A : Type 0} (test : A → Bool) (d : A) → test d ≡ true → (xs : List A) → list_all test xs ≡ true → (k : ℕ) →
    test (slice_index_or xs k d) ≡ true
passes_at test d e [] all k = e
passes_at test d e (x ∷ xs) all zero = (and_parts (test x) (list_all test xs) all).0
passes_at test d e (x ∷ xs) all (suc k) = passes_at test d e xs (and_parts (test x) (list_all test xs) all).1 k

module _ (own : Own) (all : (page : Page) → list_all (list_all place_fits) (page_of own page) ≡ true) where
  map_fits : (page : Page) (opcode : ℕ) → place_fits (place (page_of own page) opcode) ≡ true
  map_fits page opcode =
      passes_at place_fits None refl (slice_index_or (page_of own page) (opcode / 16) [])
      (passes_at (list_all place_fits) [] refl (page_of own page) (all page) (opcode / 16))
      (opcode % 16)

cpu08_fits : (page : Page) → list_all (list_all place_fits) (page_of (λ p. ··) page) ≡ true
cpu08_fits First = refl
cpu08_fits Second = refl

hcs08_fits : (page : Page) → list_all (list_all place_fits) (page_of (λ p. p) page) ≡ true
hcs08_fits First = refl
hcs08_fits Second = refl

-- an operation has no mode that no map gives it
pub occurring_fits : (o : Operation) (m : Mode) → Occurs o m → fits o m ≡ true
occurring_fits o m (page, opcode, inl at) = ap place_fits (sym at) ∙ map_fits (λ p. ··) cpu08_fits page opcode
occurring_fits o m (page, opcode, inr at) = ap place_fits (sym at) ∙ map_fits (λ p. p) hcs08_fits page opcode
