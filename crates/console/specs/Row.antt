-- A row: where the board stands after an order.
use Rattle.std.specs.Prelude.{ℕ, ◌-◌, ◌^◌, List, [], ◌∷◌, ◌++◌}
use Rattle.std.specs.Fmt.{format_spec, styled_decimal}
use Rattle.console.specs.declared.row.RegisterRow.{RegisterRow}
use Rattle.console.specs.Column.{column}

-- a row's nine columns
abbrev pub row_text : RegisterRow → List ℕ
row_text row =
    column 6 row.line ++ column 6 row.steps ++ column 8 row.cycles ++ column 3 row.refusal ++ column 6 row.pc ++ column 4 row.a ++ column 6 row.hx ++ column 6 row.sp ++ column 4 row.ccr

-- a row and its line feed (10)
abbrev pub row_bytes : RegisterRow → List ℕ
row_bytes row = row_text row ++ 10 ∷ []

-- a text with a row added, column by column
abbrev pub with_row : List ℕ → RegisterRow → List ℕ
with_row text row =
    text ++ column 6 row.line ++ column 6 row.steps ++ column 8 row.cycles ++ column 3 row.refusal ++ column 6 row.pc ++ column 4 row.a ++ column 6 row.hx ++ column 6 row.sp ++ column 4 row.ccr ++ 10 ∷ []

-- what the library writes of a number at `{:>width}`: the fill is a blank (32), and 3 is the right side
abbrev pub right_aligned : ℕ → ℕ → List ℕ
right_aligned width n = styled_decimal (format_spec 32 3 0 width (2 ^ 64 - 1)) n

-- the nine columns in the library's words
abbrev pub row_formatted : RegisterRow → List ℕ
row_formatted row =
    right_aligned 6 row.line ++ (right_aligned 6 row.steps ++ (right_aligned 8 row.cycles ++ (right_aligned 3 row.refusal ++ (right_aligned 6 row.pc ++ (right_aligned 4 row.a ++ (right_aligned 6 row.hx ++ (right_aligned 6 row.sp ++ right_aligned 4 row.ccr)))))))
