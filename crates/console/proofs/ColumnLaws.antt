-- What a column is, and that `{:>w}` writes one. Assumes nothing.
use Rattle.std.proofs.Common.{◌≡◌, ℕ, zero, suc, ◌-◌, ◌^◌, ◌<◌, ◌≤◌, ◌∷◌, length, replicate, refl, ap, append_assoc, append-nil, lt_of_lt_of_le, arith}
use native.Mathlib.Nat.{pow-le-pow_right}
use lib.Utf8.{encode}
use Rattle.std.specs.Fmt as written
use Rattle.std.specs.Fmt.{padded_integral, char_count, fill_text, format_spec}
use Rattle.std.proofs.lemmas.Fmt.{AppendsLastDigit, decimal_from_appends, length-decimal-le}
use Rattle.std.proofs.lemmas.List.{length-append, length-replicate}
use Rattle.std.proofs.lemmas.Bool.{cond-true, cond-false, lt-ltb, le-ltb, ne_eqb}
use Rattle.console.specs.Column.{digits_within, decimal, column}
use Rattle.console.specs.Row.{right_aligned}

spells : AppendsLastDigit digits_within
spells = record { one = λ k n h. cond-true _ _ _ (lt-ltb n 10 h); more = λ k n h. cond-false _ _ _ (le-ltb n 10 h) }

-- our digits are those that `{}` writes
pub decimal_is : (n : ℕ) → n < 10 ^ 10 → decimal n ≡ written.decimal n
decimal_is n h = decimal_from_appends digits_within spells 10 n (omega arith) (length-decimal-le 10 n (omega arith) h (omega arith))

pub fills_width : (width n : ℕ) → 0 < width → width ≤ 10 → n < 10 ^ width → length (column width n) ≡ width
fills_width width n some narrow h =
    let small : n < 10 ^ 10 = lt_of_lt_of_le h (pow-le-pow_right (omega arith) narrow) in
    let digits : length (decimal n) ≤ width = rw (decimal_is n small) (length-decimal-le width n some h (omega arith)) in
    simp (length-append, length-replicate) (omega (arith, digits))

blanks : (width n : ℕ) → fill_text (format_spec 32 3 0 width (2 ^ 64 - 1)) n ≡ replicate n 32
unfolding encode
blanks width zero = refl
blanks width (suc n) = ap (λ bs. 32 ∷ bs) (blanks width n)

-- the library's column is ours
pub column_written : (width n : ℕ) → 0 < width → n < 10 ^ 10 → right_aligned width n ≡ column width n
unfolding padded_integral char_count
column_written width n some h =
    let pad = width - length (written.decimal n) in
    let whole : width - length (written.decimal n) - 0 - 0 ≡ pad = omega arith in
    let none : pad - pad ≡ 0 = omega arith in
    rw (ne_eqb width 0 (omega arith), whole, none, decimal_is n h, blanks width pad, append-nil (written.decimal n)) (simp append_assoc)
