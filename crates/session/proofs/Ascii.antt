-- What a session prints is ASCII. Assumes nothing.
use Rattle.std.proofs.Common.{◌≡◌, ℕ, zero, suc, ◌+◌, ◌-◌, ◌/◌, ◌%◌, List, [], ◌∷◌, ◌++◌, length, replicate, Some, None, Option, Ok, Err, Result, ⊎_elim, arith}
use Rattle.std.specs.Str.{IsAscii, IsUtf8}
use Rattle.std.proofs.lemmas.Bool.{cases_lt, cond-true, cond-false, lt-ltb, le-ltb}
use Rattle.std.proofs.lemmas.Str.{IsAscii-append, IsUtf8-from_ascii}
use Rattle.std.proofs.lemmas.Str.Ascii.{IsAscii-nil, IsAscii-cons, IsAscii-push}
use Rattle.isa.specs.Law.{Table}
use Rattle.isa.specs.declared.model.Model.{Model}
use Rattle.board.specs.declared.refusal.Refusal.{Refusal}
use Rattle.board.specs.declared.stages.Loading.{Loading}
use Rattle.board.specs.Loading.{line_given}
use Rattle.board.specs.Situation.{Situation}
use Rattle.console.specs.declared.row.RegisterRow.{RegisterRow}
use Rattle.console.specs.Column.{digits_within, decimal, column}
use Rattle.console.specs.First.{core_of}
use Rattle.console.specs.Order.{order_of}
use Rattle.console.specs.Row.{row_bytes}
use Rattle.session.specs.declared.declined.Declined.TheVariants.{NotUnderstood, ByBoard}
use Rattle.session.specs.Course.{first_entry, first_table, lines_print, on_core, start}
use Rattle.session.specs.Orders.{obeyed}
use Rattle.session.specs.Rows.{blank_row, register_row}
use Rattle.session.specs.Phase.{Standpoint, records, orders, record_answered, line_said, printed}

digits : (places n : ℕ) → IsAscii (digits_within places n)
digits zero n = IsAscii-nil
digits (suc places) n =
    ⊎_elim
    (λ one. rw (cond-true _ _ _ (lt-ltb n 10 one)) (IsAscii-cons (48 + n) [] (omega arith) IsAscii-nil))
    (λ more. rw (cond-false _ _ _ (le-ltb n 10 more)) (IsAscii-push (digits_within places (n / 10)) (48 + n % 10) (digits places (n / 10)) (omega arith)))
    (cases_lt n 10)

blanks : (count : ℕ) → IsAscii (replicate count 32)
blanks zero = IsAscii-nil
blanks (suc count) = IsAscii-cons 32 (replicate count 32) (omega arith) (blanks count)

column_ascii : (width n : ℕ) → IsAscii (column width n)
column_ascii width n = IsAscii-append (replicate (width - length (decimal n)) 32) (decimal n) (blanks (width - length (decimal n))) (digits 10 n)

-- a column more
next : (before : List ℕ) (width n : ℕ) → IsAscii before → IsAscii (before ++ column width n)
next before width n h = IsAscii-append before (column width n) h (column_ascii width n)

row_ascii : (row : RegisterRow) → IsAscii (row_bytes row)
row_ascii row =
    let registers = next _ 4 row.ccr (next _ 6 row.sp (next _ 6 row.hx (next _ 4 row.a (next _ 6 row.pc (next _ 3 row.refusal (next _ 8 row.cycles (next _ 6 row.steps (column_ascii 6 row.line)))))))) in
    IsAscii-push _ 10 registers (omega arith)

module _ {C : Type 0} where
  answered : (number : ℕ) (p : Result Unit Refusal × Situation C Loading) → IsAscii (record_answered number p).0
  answered number (Ok done, s) = IsAscii-nil
  answered number (Err refusal, s) = row_ascii (blank_row number (ByBoard refusal))

  said : (table : C → Table) (figure : C → ℕ) (number : ℕ) (line : List ℕ) (at : Standpoint C) → IsAscii (line_said table figure number line at).0
  said table figure number line (records s) = answered number (line_given s line)
  said table figure number line (orders s) = row_ascii (register_row number (obeyed table figure (order_of line) s).0 (obeyed table figure (order_of line) s).1.stage.registers)

  printed_ascii : (table : C → Table) (figure : C → ℕ) (number : ℕ) (lines : List (List ℕ)) (at : Standpoint C) → IsAscii (printed table figure number lines at)
  printed_ascii table figure number [] at = IsAscii-nil
  printed_ascii table figure number (line ∷ lines) at =
      IsAscii-append (line_said table figure number line at).0 _ (said table figure number line at) (printed_ascii table figure (number + 1) lines (line_said table figure number line at).1)

core_ascii : (core : Option Model) (lines : List (List ℕ)) → IsAscii (on_core core lines)
core_ascii None lines = row_ascii (blank_row 1 NotUnderstood)
core_ascii (Some model) lines = printed_ascii first_table first_entry 2 lines (start (record { 0 = model }))

print_ascii : (lines : List (List ℕ)) → IsAscii (lines_print lines)
print_ascii [] = IsAscii-nil
print_ascii (first ∷ lines) = core_ascii (core_of first) lines

-- so it is a text
pub printed_text : (lines : List (List ℕ)) (text : List ℕ) → text ≡ lines_print lines → IsUtf8 text
printed_text lines text is = rw is (IsUtf8-from_ascii _ (print_ascii lines))
