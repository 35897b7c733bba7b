-- The law of a core's rows, by one test that is computed over the lines of both pages.
use Rattle.std.specs.Prelude.{◌≡◌, ℕ, zero, suc, ◌/◌, ◌%◌, Bool, true, ◌&&◌, List, [], ◌∷◌, Some, None, nat_le, slice_index_or, refl}
use Rattle.std.specs.List.{list_all}
use Rattle.std.proofs.Common.{subst, inl, inr}
use Rattle.std.proofs.lemmas.Bool.{and_parts, leb-true}
use Rattle.std.proofs.lemmas.Option.{none-some}
use Rattle.isa.specs.declared.operation.Operation.{Operation}
use Rattle.isa.specs.declared.row.Mode.{Mode}
use Rattle.isa.specs.declared.row.Page.{Page}
use Rattle.isa.specs.declared.row.Page.TheVariants.{First, Second}
use Rattle.isa.specs.declared.row.Row.{Row}
use Rattle.isa.specs.declared.model.Model.{Model}
use Rattle.isa.specs.declared.model.Model.TheVariants.{Cpu08, Hcs08}
use Rattle.isa.specs.Model.{model_table}
use Rattle.isa.specs.Maps.{Place, place, page_of, ··}
use Rattle.isa.specs.Timing.{figures}
use Rattle.isa.specs.Law.{Occurs, LawfulRow}
use Rattle.isa.specs.Tables.{row_at, cpu08_table, hcs08_table}

-- what passes at every element and at the default passes wherever the list is read
all_at : {A : Type 0} (f : A → Bool) (d : A) → f d ≡ true → (xs : List A) → list_all f xs ≡ true → (k : ℕ) → f (slice_index_or xs k d) ≡ true
all_at f d passes [] all k = passes
all_at f d passes (x ∷ xs) all zero = (and_parts (f x) (list_all f xs) all).0
all_at f d passes (x ∷ xs) all (suc k) = all_at f d passes xs ((and_parts (f x) (list_all f xs) all).1) k

module _ (cycles : Operation → Mode → ℕ) where
  -- a place is blank, or its cycles are from 1 to 20
  abbrev timed : Place → Bool
  timed None = true
  timed (Some p) = nat_le 1 (cycles p.0 p.1) && nat_le (cycles p.0 p.1) 20

  -- so is each place of both pages
  abbrev AllTimed : (Page → List (List Place)) → Type 0
  AllTimed lines = (page : Page) → list_all (list_all timed) (lines page) ≡ true

  timed_place : (lines : Page → List (List Place)) → AllTimed lines → (page : Page) (opcode : ℕ) → timed (place (lines page) opcode) ≡ true
  timed_place lines all page opcode =
      all_at timed None refl (slice_index_or (lines page) (opcode / 16) [])
      (all_at (list_all timed) [] refl (lines page) (all page) (opcode / 16))
      (opcode % 16)

  lawful : (page : Page) (at : Place) (row : Row) → ((p : Operation × Mode) → at ≡ Some p → Occurs p.0 p.1) →
      timed at ≡ true → row_at cycles page at ≡ Some row → LawfulRow page row
  lawful page None row occurs t e = absurd (none-some row e)
  lawful page (Some p) row occurs t e =
      let is : _ ≡ row = cc in
      let bounds = and_parts (nat_le 1 (cycles p.0 p.1)) (nat_le (cycles p.0 p.1) 20) t in
      subst (λ (r : Row). LawfulRow page r) is
      (record {
        mapped = occurs p refl;
        counted = refl;
        timed = record { least = leb-true 1 (cycles p.0 p.1) bounds.0; most = leb-true (cycles p.0 p.1) 20 bounds.1 };
      })

  -- the law at every place, from the test
  rows_lawful : (lines : Page → List (List Place)) → AllTimed lines →
      ((page : Page) (opcode : ℕ) (p : Operation × Mode) → place (lines page) opcode ≡ Some p → Occurs p.0 p.1) →
      (page : Page) (opcode : ℕ) (row : Row) → row_at cycles page (place (lines page) opcode) ≡ Some row → LawfulRow page row
  rows_lawful lines all occurs page opcode row e =
      lawful page (place (lines page) opcode) row (occurs page opcode) (timed_place lines all page opcode) e

cpu08_timed : AllTimed (λ o m. (figures o m).cpu08) (page_of (λ p. ··))
cpu08_timed First = refl
cpu08_timed Second = refl

hcs08_timed : AllTimed (λ o m. (figures o m).hcs08) (page_of (λ p. p))
hcs08_timed First = refl
hcs08_timed Second = refl

-- the law of the CPU08's rows
pub cpu08_lawful : (page : Page) (opcode : ℕ) (row : Row) → cpu08_table page opcode ≡ Some row → LawfulRow page row
cpu08_lawful = rows_lawful (λ o m. (figures o m).cpu08) (page_of (λ p. ··)) cpu08_timed (λ page opcode p at. (page, opcode, inl at))

-- the law of the HCS08's rows
pub hcs08_lawful : (page : Page) (opcode : ℕ) (row : Row) → hcs08_table page opcode ≡ Some row → LawfulRow page row
hcs08_lawful = rows_lawful (λ o m. (figures o m).hcs08) (page_of (λ p. p)) hcs08_timed (λ page opcode p at. (page, opcode, inr at))

-- the law of either core's rows
pub model_lawful : (model : Model) (page : Page) (opcode : ℕ) (row : Row) → model_table model page opcode ≡ Some row → LawfulRow page row
model_lawful Cpu08 = cpu08_lawful
model_lawful Hcs08 = hcs08_lawful
