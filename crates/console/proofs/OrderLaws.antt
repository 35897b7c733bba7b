-- How an order and its number are read. Assumes nothing.
use Rattle.std.proofs.Common.{◌≡◌, ℕ, ◌+◌, ◌-◌, ◌*◌, ◌/◌, ◌%◌, ◌^◌, ◌<◌, ◌≤◌, Bool, true, false, cond, ◌&&◌, leb, List, [], ◌∷◌, ◌++◌, length, get_or, drop, Some, None, ap, ◌∙◌, add-one, arith}
use native.Mathlib.Nat.{pow-succ'}
use Rattle.std.specs.Fmt as written
use Rattle.std.proofs.lemmas.Fmt.{decimal_by_steps}
use Rattle.std.proofs.lemmas.List.{at_drop_more, at_drop_all}
use Rattle.std.proofs.lemmas.Bool.{le-leb, and_from, cond-true, cond-false}
use Rattle.console.specs.Column.{decimal}
use Rattle.console.specs.Order.{digits_value}
use Rattle.console.proofs.ColumnLaws.{decimal_is}

-- reading on from a place where a digit stands, where another character does, and at the end
pub read_digit : (value : ℕ) (digits : List ℕ) (i : ℕ) → i < length digits → (leb 48 (get_or digits i 0) && leb (get_or digits i 0) 57) ≡ true → digits_value value (drop i digits) ≡ digits_value (value * 10 + (get_or digits i 0 - 48)) (drop (i + 1) digits)
read_digit value digits i h e = at_drop_more (digits_value value) digits i 0 h ∙ cond-true _ _ _ e

pub read_other : (value : ℕ) (digits : List ℕ) (i : ℕ) → i < length digits → (leb 48 (get_or digits i 0) && leb (get_or digits i 0) 57) ≡ false → digits_value value (drop i digits) ≡ None
read_other value digits i h e = at_drop_more (digits_value value) digits i 0 h ∙ cond-false _ _ _ e

pub read_end : (value : ℕ) (digits : List ℕ) (i : ℕ) → length digits ≤ i → digits_value value (drop i digits) ≡ Some value
read_end value digits i h = at_drop_all (digits_value value) digits i h

pub one_more_digit : (value digit i : ℕ) → value < 10 ^ i → digit < 10 → value * 10 + digit < 10 ^ (i + 1)
one_more_digit value digit i h k = rw (add-one, pow-succ') (omega arith)

-- one digit more at the end
after_digit : (sofar value c d : ℕ) (cs : List ℕ) → (test : Bool) → cond test (digits_value (sofar * 10 + (c - 48)) cs) None ≡ Some value → (digits_value (sofar * 10 + (c - 48)) cs ≡ Some value → digits_value (sofar * 10 + (c - 48)) (cs ++ d ∷ []) ≡ Some (value * 10 + (d - 48))) → cond test (digits_value (sofar * 10 + (c - 48)) (cs ++ d ∷ [])) None ≡ Some (value * 10 + (d - 48))
after_digit sofar value c d cs true e more = more e
after_digit sofar value c d cs false e more = cc

read_push : (sofar value d : ℕ) (ds : List ℕ) → 48 ≤ d → d ≤ 57 → digits_value sofar ds ≡ Some value → digits_value sofar (ds ++ d ∷ []) ≡ Some (value * 10 + (d - 48))
read_push sofar value d [] low high e =
    cond-true _ _ _ (and_from _ _ (le-leb 48 d low) (le-leb d 57 high)) ∙ (let same : sofar ≡ value = cc in ap (λ n. Some (n * 10 + (d - 48))) same)
read_push sofar value d (c ∷ cs) low high e = after_digit sofar value c d cs (leb 48 c && leb c 57) e (read_push (sofar * 10 + (c - 48)) value d cs low high)

written_reads_back : (n : ℕ) → n < 2 ^ 64 → digits_value 0 (written.decimal n) ≡ Some n
written_reads_back =
    decimal_by_steps (λ n ds. digits_value 0 ds ≡ Some n)
    (λ n h. cond-true _ _ _ (and_from _ _ (le-leb 48 (48 + n) (omega arith)) (le-leb (48 + n) 57 (omega arith))) ∙ ap Some (omega arith))
    (λ n ds h e. read_push 0 (n / 10) (48 + n % 10) ds (omega arith) (omega arith) e ∙ ap Some (omega arith))

pub reads_back : (n : ℕ) → n < 10 ^ 10 → digits_value 0 (decimal n) ≡ Some n
reads_back n h = rw (decimal_is n h) (written_reads_back n (omega arith))
