-- What each cell shows once a data line was taken.
use Rattle.std.proofs.Common.{◌≡◌, ℕ, zero, suc, ◌+◌, ◌-◌, ◌*◌, ◌/◌, ◌<◌, Bool, true, false, leb, List, length, get_or, drop, is_ok, Ok, Err, Result, sym, refl, ap, ◌∙◌, subst, ⊎_elim, arith}
use Rattle.std.proofs.lemmas.List.{length-take, length-drop, get_or-take, get_or-drop}
use Rattle.std.proofs.lemmas.Bool.{cases_eq, cond-true, cond-false, eq-eqb, ne_eqb}
use Rattle.bus.specs.Cell.{Cell, Cells, open_cell, guarded_cell, missing_cell, store_answer, overwritten}
use Rattle.srecord.specs.declared.record.Kind.{Kind}
use Rattle.srecord.specs.declared.record.Kind.TheVariants.{Data}
use Rattle.srecord.specs.declared.refusal.LineRefusal.{LineRefusal}
use Rattle.srecord.specs.Digits.{byte_of, byte_at, address_of}
use Rattle.srecord.specs.Load.{open_answer, first_refusal, open_from, stored_data, data_answer, read_taken, line_taken, count_in, address_in, DataLine, DataSpelled}
use Rattle.srecord.specs.Reader.{address_digits, data_digits, record_of}
use Rattle.srecord.specs.Record.{Parsed, data_parsed, kind_of, parsed_of}
use Rattle.srecord.proofs.Bytes.{same_byte}
use Rattle.srecord.proofs.Reading.{line_read}
use Rattle.srecord.proofs.Refusals.{never_both, passed}

-- a cell that takes a byte shows it
open_takes : (address : ℕ) (cell : Cell) (byte : ℕ) → open_answer address (store_answer cell) ≡ Ok tt → overwritten cell byte ≡ open_cell byte
open_takes address (open_cell old) byte is = refl
open_takes address (guarded_cell old) byte is = never_both is
open_takes address missing_cell byte is = never_both is

none_refused : (one next : Result Unit LineRefusal) → first_refusal one next ≡ Ok tt → (one ≡ Ok tt) × (next ≡ Ok tt)
none_refused (Ok done) next is = (refl, is)
none_refused (Err refusal) next is = never_both is

module _ (cells : Cells) (address : ℕ) (digits : List ℕ) where
  -- a cell without a byte of the data keeps
  pub stored_other : (n a : ℕ) → ((k : ℕ) → k < n → a ≡ address + k → ⊥) → stored_data cells address digits n a ≡ cells a
  stored_other zero a apart = refl
  stored_other (suc n) a apart =
      cond-false _ _ _ (ne_eqb a (address + n) (apart n (omega arith))) ∙ stored_other n a (λ k h. apart k (omega arith))

  -- an open cell shows its byte
  pub stored_at : (n k : ℕ) → k < n → open_from cells address n ≡ Ok tt → stored_data cells address digits n (address + k) ≡ open_cell (byte_at digits k)
  stored_at zero k within opened = absurd (omega arith)
  stored_at (suc n) k within opened =
      let parts = none_refused (open_from cells address n) (open_answer (address + n) (store_answer (cells (address + n)))) opened in
      let here = cond-true _ _ _ (eq-eqb (address + n) (address + n) refl) ∙ (ap (λ cell. overwritten cell (byte_at digits n)) (stored_other n (address + n) (λ j h e. omega arith)) ∙ open_takes (address + n) (cells (address + n)) (byte_at digits n) parts.1) in
      ⊎_elim
      (λ same. let P : ℕ → Type 0 = λ j. stored_data cells address digits (suc n) (address + j) ≡ open_cell (byte_at digits j) in subst P (sym same) here)
      (λ other. cond-false _ _ _ (ne_eqb (address + k) (address + n) (λ e. other (omega arith))) ∙ stored_at n k (omega arith) parts.0)
      (cases_eq k n)

data_size : (digits : List ℕ) → length digits ≡ 2 + 2 * byte_at digits 0 → length (data_digits digits) / 2 ≡ byte_at digits 0 - 3
data_size digits long =
    let size : length (data_digits digits) ≡ 2 * (byte_at digits 0 - 3) = simp (length-take, length-drop) (omega arith) in
    omega arith

-- the parts of a line, by its characters
module _ (line : List ℕ) where
  address_character : (k : ℕ) → k < 4 → get_or (address_digits (drop 2 line)) k 0 ≡ get_or line (2 + (2 + k)) 0
  address_character k h = get_or-take 4 (drop 2 (drop 2 line)) k 0 h ∙ (get_or-drop 2 (drop 2 line) k 0 ∙ get_or-drop 2 line (2 + k) 0)

  data_character : (k : ℕ) → k < 2 * (byte_at (drop 2 line) 0 - 3) → get_or (data_digits (drop 2 line)) k 0 ≡ get_or line (2 + (6 + k)) 0
  data_character k h = get_or-take (2 * (byte_at (drop 2 line) 0 - 3)) (drop 6 (drop 2 line)) k 0 h ∙ (get_or-drop 6 (drop 2 line) k 0 ∙ get_or-drop 2 line (6 + k) 0)

  count_is : byte_at (drop 2 line) 0 ≡ count_in line
  count_is = same_byte (get_or-drop 2 line 0 0) (get_or-drop 2 line 1 0)

  address_is : address_of (address_digits (drop 2 line)) ≡ address_in line
  address_is =
      let high = same_byte (address_character 0 (omega arith)) (address_character 1 (omega arith)) in
      let low = same_byte (address_character 2 (omega arith)) (address_character 3 (omega arith)) in
      ap (λ x. 256 * x + byte_at (address_digits (drop 2 line)) 1) high ∙ ap (λ x. 256 * byte_of (get_or line 4 0) (get_or line 5 0) + x) low

  byte_is : (n : ℕ) → n < byte_at (drop 2 line) 0 - 3 → byte_at (data_digits (drop 2 line)) n ≡ byte_of (get_or line (8 + 2 * n) 0) (get_or line (9 + 2 * n) 0)
  byte_is n h =
      let first : 2 + (6 + 2 * n) ≡ 8 + 2 * n = omega arith in
      let second : 2 + (6 + (2 * n + 1)) ≡ 9 + 2 * n = omega arith in
      same_byte (data_character (2 * n) (omega arith) ∙ ap (λ k. get_or line k 0) first) (data_character (2 * n + 1) (omega arith) ∙ ap (λ k. get_or line k 0) second)

  -- a line of kind `1` that was read is a data record
  data_read : (parsed : Parsed) → DataLine line → record_of line ≡ Ok parsed → (length (drop 2 line) ≡ 2 + 2 * byte_at (drop 2 line) 0) × (record_of line ≡ Ok (data_parsed (address_digits (drop 2 line)) (data_digits (drop 2 line))))
  data_read parsed one is =
      let read = (line_read line parsed is).1 in
      let both : ◌≡◌ {A = Result Kind LineRefusal} (Ok read.known) (Ok Data) = sym read.kind_is ∙ ap kind_of one in
      let kind : read.known ≡ Data = cc in
      (read.long, is ∙ ap Ok (sym read.parsed_is ∙ ap (λ k. parsed_of k (address_digits (drop 2 line)) (data_digits (drop 2 line))) kind))

  module _ (cells : Cells) where
    taken_parsed : (answered : Result Parsed LineRefusal) → (read_taken cells answered).answer ≡ Ok tt → (parsed : Parsed) × (answered ≡ Ok parsed)
    taken_parsed (Ok parsed) is = (parsed, refl)
    taken_parsed (Err refusal) is = never_both is

    -- a data line that was taken had open cells, and has stored its bytes
    data_taken : DataLine line → (read_taken cells (record_of line)).answer ≡ Ok tt → (open_from cells (address_in line) (count_in line - 3) ≡ Ok tt) × ((read_taken cells (record_of line)).memory ≡ stored_data cells (address_in line) (data_digits (drop 2 line)) (count_in line - 3))
    data_taken one done =
        let whole = taken_parsed (record_of line) done in
        let read = data_read whole.0 one whole.1 in
        let address = address_of (address_digits (drop 2 line)) in
        let digits = data_digits (drop 2 line) in
        let answer : data_answer cells address digits ≡ Ok tt = ap (λ x. (read_taken cells x).answer) (sym read.1) ∙ done in
        let opened = (passed (leb (address + length digits / 2) 65536) _ _ _ answer).1 in
        let memory : (read_taken cells (record_of line)).memory ≡ stored_data cells address digits (length digits / 2) = ap (λ x. (read_taken cells x).memory) read.1 ∙ cond-true _ _ _ (ap is_ok answer) in
        let size = data_size (drop 2 line) read.0 ∙ ap (λ n. n - 3) count_is in
        (ap (λ n. open_from cells (address_in line) n) (sym size) ∙ (ap (λ a. open_from cells a (length digits / 2)) (sym address_is) ∙ opened), memory ∙ (ap (λ a. stored_data cells a digits (length digits / 2)) address_is ∙ ap (λ n. stored_data cells (address_in line) digits n) size))

    pub data_spelled : (ended : Bool) (answer : Result Unit LineRefusal) (after : Cells) → answer ≡ (line_taken ended cells line).answer → after ≡ (line_taken ended cells line).memory → DataLine line → answer ≡ Ok tt → DataSpelled line cells after
    data_spelled true answer after answered left one ok = never_both (sym answered ∙ ok)
    data_spelled false answer after answered left one ok =
        let taken = data_taken one (sym answered ∙ ok) in
        let digits = data_digits (drop 2 line) in
        let stored = left ∙ taken.1 in
        record {
          spelled = λ n h. ap (λ f. f (address_in line + n)) stored ∙ (stored_at cells (address_in line) digits (count_in line - 3) n h taken.0 ∙ ap open_cell (byte_is n (omega (arith, count_is))));
          kept = λ a apart. ap (λ f. f a) stored ∙ stored_other cells (address_in line) digits (count_in line - 3) a apart;
        }
