-- A row and an order worked out, and what holds of every column.
use Rattle.std.specs.Prelude.{◌≡◌, ℕ, ◌^◌, ◌<◌, ◌≤◌, [], ◌∷◌, ◌++◌, length, Some, codes}
use Rattle.console.specs.declared.order.Order.TheVariants.{Run}
use Rattle.console.specs.declared.row.RegisterRow.{RegisterRow}
use Rattle.console.specs.Column.{decimal, column}
use Rattle.console.specs.Order.{digits_value, order_of}
use Rattle.console.specs.Row.{row_bytes}

-- line 5: 12 steps in 24 cycles, refusal 32, and the registers
abbrev pub example_row : RegisterRow
example_row =
    record { line = 5; steps = 12; cycles = 24; refusal = 32; pc = 32774; a = 0; hx = 0; sp = 255; ccr = 98 }

-- that row's characters
abbrev pub RowExample : Type 0
RowExample = row_bytes example_row ≡ codes "     5    12      24 32 32774   0     0   255  98" ++ 10 ∷ []

-- an order to run twenty steps
abbrev pub OrderExample : Type 0
OrderExample = order_of (codes "R 20") ≡ Some (Run 20)

-- a column is as long as it is wide, where the number is not wider
abbrev pub FillsItsWidth : Type 0
FillsItsWidth = (width n : ℕ) → 0 < width → width ≤ 10 → n < 10 ^ width → length (column width n) ≡ width

-- the digits that are written of a number are read as that number
abbrev pub ReadsBack : Type 0
ReadsBack = (n : ℕ) → n < 10 ^ 10 → digits_value 0 (decimal n) ≡ Some n
