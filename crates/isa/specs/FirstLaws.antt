-- The first set of a core: its rows are lawful, and they are those of its map.
use Rattle.std.specs.Prelude.{◌≡◌, ℕ, ◌/◌, ◌%◌, Bool, true, false, cond, List, [], Some, None, Option, slice_index_or, refl}
use Rattle.std.proofs.Common.{ap, ◌∙◌, sym, map}
use Rattle.std.proofs.Math.ListN.{get_or-map}
use Rattle.std.proofs.lemmas.Option.{cond_some}
use Rattle.isa.specs.declared.operation.Operation.{Operation}
use Rattle.isa.specs.declared.row.Mode.{Mode}
use Rattle.isa.specs.declared.row.Page.{Page}
use Rattle.isa.specs.declared.row.Page.TheVariants.{First, Second}
use Rattle.isa.specs.declared.row.Row.{Row}
use Rattle.isa.specs.Law.{Table, LawfulRow}
use Rattle.isa.specs.Maps.{Place, Own, place, page_of, ··}
use Rattle.isa.specs.Tables.{row_at, table_of, cpu08_table, hcs08_table}
use Rattle.isa.specs.Timing.{figures}
use Rattle.isa.specs.FirstSet.{in_first_set, if_first, first_set_of, SameRows}
use Rattle.isa.specs.FirstMaps.{first_lines, first_map, first_cpu08_table, first_hcs08_table}

-- a row of the first set is a row of the table
of_table : (o : Option Row) (row : Row) → if_first o ≡ Some row → o ≡ Some row
of_table None row e = e
of_table (Some r) row e = ap Some ((cond_some (in_first_set r.operation r.mode) r row e).1)

-- a law of all rows of a table binds its first set
pub first_set_lawful : (table : Table) →
    ((page : Page) (opcode : ℕ) (row : Row) → table page opcode ≡ Some row → LawfulRow page row) →
    (page : Page) (opcode : ℕ) (row : Row) → first_set_of table page opcode ≡ Some row → LawfulRow page row
first_set_lawful table lawful page opcode row e = lawful page opcode row (of_table (table page opcode) row e)

-- an operation in a mode, if it is of the first set
abbrev first_place : Place → Place
first_place None = None
first_place (Some p) = cond (in_first_set p.0 p.1) (Some p) None

module _ (cycles : Operation → Mode → ℕ) (page : Page) where
  split : (b : Bool) (p : Operation × Mode) →
      cond b (row_at cycles page (Some p)) None ≡ row_at cycles page (cond b (Some p) None)
  split true p = refl
  split false p = refl

  row_of_place : (at : Place) → if_first (row_at cycles page at) ≡ row_at cycles page (first_place at)
  row_of_place None = refl
  row_of_place (Some p) = split (in_first_set p.0 p.1) p

-- the first set of some lines, at an opcode
place_of_lines : (lines : List (List Place)) (opcode : ℕ) →
    first_place (place lines opcode) ≡ place (map (map first_place) lines) opcode
place_of_lines lines opcode =
    sym (get_or-map first_place (slice_index_or lines (opcode / 16) []) (opcode % 16) None)
    ∙ ap (λ (l : List Place). slice_index_or l (opcode % 16) None) (sym (get_or-map (map first_place) lines (opcode / 16) []))

module _ (own : Own) (lines_are : (page : Page) → map (map first_place) (page_of own page) ≡ first_lines own page)
    (cycles : Operation → Mode → ℕ) where
  mapped : SameRows (first_set_of (table_of (λ page opcode. place (page_of own page) opcode) cycles)) (table_of (first_map own) cycles)
  mapped page opcode =
      row_of_place cycles page (place (page_of own page) opcode)
      ∙ ap (row_at cycles page) (place_of_lines (page_of own page) opcode ∙ ap (λ (l : List (List Place)). place l opcode) (lines_are page))

cpu08_lines : (page : Page) → map (map first_place) (page_of (λ p. ··) page) ≡ first_lines (λ p. ··) page
cpu08_lines First = refl
cpu08_lines Second = refl

hcs08_lines : (page : Page) → map (map first_place) (page_of (λ p. p) page) ≡ first_lines (λ p. p) page
hcs08_lines First = refl
hcs08_lines Second = refl

-- the first set of the CPU08's table is the table of its map
pub cpu08_first : SameRows (first_set_of cpu08_table) first_cpu08_table
cpu08_first = mapped (λ p. ··) cpu08_lines (λ o m. (figures o m).cpu08)

-- the first set of the HCS08's table is the table of its map
pub hcs08_first : SameRows (first_set_of hcs08_table) first_hcs08_table
hcs08_first = mapped (λ p. p) hcs08_lines (λ o m. (figures o m).hcs08)
