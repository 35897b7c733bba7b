-- A page that is written down, read at an opcode.
use Rattle.std.proofs.Common.{◌≡◌, ℕ, ◌<◌, List, get_or, None, Option, sym, ap, ◌∙◌, arith}
use Rattle.std.proofs.Math.ListN.{get_or-map}
use Rattle.std.proofs.lemmas.List.FromFn.{get_or-map-range_with_len}
use Rattle.isa.specs.declared.model.Model.{Model}
use Rattle.isa.specs.declared.model.Model.TheVariants.{Cpu08, Hcs08}
use Rattle.isa.specs.declared.row.Page.{Page}
use Rattle.isa.specs.declared.row.Page.TheVariants.{First, Second}
use Rattle.isa.specs.declared.row.Row.{Row}
use Rattle.isa.specs.Model.{model_table}
use Rattle.isa.specs.Row.{Written, row_on, rows_on, listed, RowsOf}

module _ (opcode : ℕ) (places : List Written) (model : Model) where
  pub at : (page : ℕ → Option Row) → opcode < 256 → rows_on model places ≡ listed page → row_on model (get_or places opcode None) ≡ page opcode
  at page h written =
      sym (get_or-map (row_on model) places opcode None)
      ∙ ap (λ (rows : List (Option Row)). get_or rows opcode None) written
      ∙ get_or-map-range_with_len page 0 256 opcode opcode None h (omega arith)

  pub row_read : (page : Page) → opcode < 256 → RowsOf model page places → row_on model (get_or places opcode None) ≡ model_table model page opcode
  row_read First h = at (model_table model First) h
  row_read Second h = at (model_table model Second) h

-- the row at a place of a page, where the page's rows are each core's
pub row_of_core : (model : Model) (page : Page) (opcode : ℕ) (places : List Written) →
    RowsOf Cpu08 page places → RowsOf Hcs08 page places → opcode < 256 → row_on model (get_or places opcode None) ≡ model_table model page opcode
row_of_core Cpu08 page opcode places cpu08 hcs08 h = row_read opcode places Cpu08 page h cpu08
row_of_core Hcs08 page opcode places cpu08 hcs08 h = row_read opcode places Hcs08 page h hcs08
