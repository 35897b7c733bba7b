-- The first set has one meaning, since each of its operations is carried out alike.
use Rattle.std.proofs.Common.{◌≡◌, ℕ, Bool, true, false, cond, not, Some, None, Option, inl, inr, ◌⊎◌, refl, ap, sym, subst, ◌∙◌}
use Rattle.std.specs.Prelude.{◌==◌}
use Rattle.std.proofs.Math.Path.{fun_ext}
use Rattle.std.proofs.lemmas.Bool.{false≢true, or_cases}
use Rattle.isa.specs.declared.operation.Operation.{Operation}
use Rattle.isa.specs.declared.operation.Operation.TheVariants.{Branch, BranchOnBit, ChangeBit, Combine, Store, Modify, CompareAndBranch, DecrementAndBranch, Move, Word, Displace, Transfer, GoBack, SoftwareInterrupt, Stack, Register, Rest}
use Rattle.isa.specs.declared.operation.Pointer.TheVariants.{Ais, Aix}
use Rattle.isa.specs.declared.operation.ReadModifyWrite.{ReadModifyWrite}
use Rattle.isa.specs.declared.operation.Standstill.TheVariants.{Stop, Wait, Bgnd}
use Rattle.isa.specs.declared.operation.WordOperation.TheVariants.{Ldhx, Cphx, Sthx}
use Rattle.isa.specs.declared.row.Mode.{Mode}
use Rattle.isa.specs.declared.row.Mode.TheVariants.{Inherent, InherentA, InherentX, Immediate, Relative}
use Rattle.isa.specs.declared.row.Page.{Page}
use Rattle.isa.specs.declared.row.Page.TheVariants.{First, Second}
use Rattle.isa.specs.declared.row.Row.{Row}
use Rattle.isa.specs.FirstSet.{in_first_set, same_mode, if_first, first_set_of}
use Rattle.alu.specs.Addresses.{after}
use Rattle.isa.specs.Law.{Table}
use Rattle.state.specs.declared.registers.Registers.{Registers}
use Rattle.access.specs.Access.{Access, read, answered, ◌>>=◌}
use Rattle.machine.specs.Execute as machine
use Rattle.machine.specs.Decode.{row_found}
use Rattle.first_set.specs.Meaning.{carried_out}
use Rattle.first_set.specs.Same.{SameCarriedOut, SameOperations, SameInstructions, Lawful, running_with}
use Rattle.first_set.proofs.Fitting.{fits, mode_told, occurring_fits}

-- two ways to go on after one of two trees
chosen_alike : {X Y : Type 0} (f g : X → Access Y) (b : Bool) (s t : Access X) →
    (s >>= f) ≡ (s >>= g) → (t >>= f) ≡ (t >>= g) → (cond b s t >>= f) ≡ (cond b s t >>= g)
chosen_alike f g true s t e e' = e
chosen_alike f g false s t e e' = e'

module _ (same : SameOperations) where
  in_mode : (o : Operation) (m n : Mode) → same_mode m n ≡ true → SameCarriedOut o n → SameCarriedOut o m
  in_mode o m n e alike = subst (λ (mode : Mode). SameCarriedOut o mode) (mode_told m n e) alike

  modified_alike : (o : ReadModifyWrite) (m : Mode) → (same_mode m InherentA ≡ true) ⊎ (same_mode m InherentX ≡ true) → SameCarriedOut (Modify o) m
  modified_alike o m (inl e) = in_mode (Modify o) m InherentA e (same.modify_a o)
  modified_alike o m (inr e) = in_mode (Modify o) m InherentX e (same.modify_x o)

  alike : (o : Operation) (m : Mode) → in_first_set o m ≡ true → fits o m ≡ true → SameCarriedOut o m
  alike (Branch c) m e f = in_mode (Branch c) m Relative f (same.branch c)
  alike (BranchOnBit o) m e f = absurd (false≢true e)
  alike (ChangeBit o) m e f = absurd (false≢true e)
  alike (Combine o) m e f = in_mode (Combine o) m Immediate e (same.combine o)
  alike (Store o) m e f = absurd (false≢true e)
  alike (Modify o) m e f = modified_alike o m (or_cases (same_mode m InherentA) (same_mode m InherentX) e)
  alike (CompareAndBranch o) m e f = absurd (false≢true e)
  alike DecrementAndBranch m e f = absurd (false≢true e)
  alike Move m e f = absurd (false≢true e)
  alike (Word Ldhx) m e f = in_mode (Word Ldhx) m Immediate e same.load
  alike (Word Cphx) m e f = in_mode (Word Cphx) m Immediate e same.compare
  alike (Word Sthx) m e f = absurd (false≢true (ap not (sym e) ∙ f))
  alike (Displace Ais) m e f = in_mode (Displace Ais) m Immediate f same.stack_pointer
  alike (Displace Aix) m e f = in_mode (Displace Aix) m Immediate f same.index
  alike (Transfer j) m e f = absurd (false≢true e)
  alike (GoBack w) m e f = absurd (false≢true e)
  alike SoftwareInterrupt m e f = absurd (false≢true e)
  alike (Stack o) m e f = absurd (false≢true e)
  alike (Register o) m e f = in_mode (Register o) m Inherent f (same.register o)
  alike (Rest Stop) m e f = in_mode (Rest Stop) m Inherent f same.stop
  alike (Rest Wait) m e f = in_mode (Rest Wait) m Inherent f same.wait
  alike (Rest Bgnd) m e f = in_mode (Rest Bgnd) m Inherent f same.background

  module _ (r : Registers) (lines : ℕ) where
    -- a row, if it is of the first set
    row_alike : (row : Row) (b : Bool) (operand : ℕ) →
        in_first_set row.operation row.mode ≡ b → (cond b (Some row) None ≡ Some row → fits row.operation row.mode ≡ true) →
        (answered (row_found (cond b (Some row) None) operand) >>= machine.carried_out (running_with r lines))
        ≡ (answered (row_found (cond b (Some row) None) operand) >>= (λ d. carried_out r lines d.row d.operand))
    row_alike row true operand e fit = alike row.operation row.mode e (fit refl) row.bytes row.cycles operand r lines
    row_alike row false operand e fit = refl

    place_alike : (o : Option Row) (operand : ℕ) → ((row : Row) → if_first o ≡ Some row → fits row.operation row.mode ≡ true) →
        (answered (row_found (if_first o) operand) >>= machine.carried_out (running_with r lines))
        ≡ (answered (row_found (if_first o) operand) >>= (λ d. carried_out r lines d.row d.operand))
    place_alike None operand fit = refl
    place_alike (Some row) operand fit = row_alike row (in_first_set row.operation row.mode) operand refl (fit row)

  lawful_fits : (table : Table) → Lawful table → (page : Page) (opcode : ℕ) (row : Row) → table page opcode ≡ Some row →
      fits row.operation row.mode ≡ true
  lawful_fits table lawful page opcode row e = occurring_fits row.operation row.mode (lawful page opcode row e).mapped

  -- the lawful first set of a table means the same
  pub instructions_alike : (table : Table) → Lawful (first_set_of table) → SameInstructions (first_set_of table)
  instructions_alike table lawful r lines =
      let goes = machine.carried_out (running_with r lines) in
      let found = λ (page : Page) (opcode operand : ℕ). answered (row_found (first_set_of table page opcode) operand) in
      let found_alike = λ (page : Page) (opcode operand : ℕ). place_alike r lines (table page opcode) operand (lawful_fits (first_set_of table) lawful page opcode) in
      ap (read r.pc)
      (fun_ext (λ opcode.
      chosen_alike goes (λ d. carried_out r lines d.row d.operand) (opcode == 0x9E)
      (read (after r.pc 1) (λ second. found Second second (after r.pc 2)))
      (found First opcode (after r.pc 1))
      (ap (read (after r.pc 1)) (fun_ext (λ second. found_alike Second second (after r.pc 2))))
      (found_alike First opcode (after r.pc 1))))
