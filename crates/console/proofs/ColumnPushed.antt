-- A column is its last digit after a column that is one narrower. Assumes nothing.
use Rattle.std.proofs.Common.{◌≡◌, ℕ, ◌+◌, ◌-◌, ◌/◌, ◌%◌, ◌^◌, ◌<◌, ◌≤◌, List, [], ◌∷◌, ◌++◌, length, replicate, sym, refl, ap, ◌∙◌, append_assoc, arith}
use Rattle.std.proofs.lemmas.Fmt.{decimal_digit, decimal_step, length-decimal-le}
use Rattle.std.proofs.lemmas.List.{length-append, length-replicate, length_push}
use Rattle.console.specs.Column.{decimal, column}
use Rattle.console.proofs.ColumnLaws.{decimal_is}

pub one_digit : (n : ℕ) → n < 10 → decimal n ≡ (48 + n) ∷ []
one_digit n h = decimal_is n (omega arith) ∙ decimal_digit n h

pub last_digit : (n : ℕ) → 10 ≤ n → n < 10 ^ 10 → decimal n ≡ decimal (n / 10) ++ (48 + n % 10) ∷ []
last_digit n more h =
    let low : n / 10 < 10 ^ 10 = omega arith in
    decimal_is n h ∙ decimal_step n more (omega arith) ∙ ap (λ ds. ds ++ (48 + n % 10) ∷ []) (sym (decimal_is (n / 10) low))

pub length-decimal : (k n : ℕ) → 0 < k → n < 10 ^ k → n < 10 ^ 10 → length (decimal n) ≤ k
length-decimal k n some h small = rw (decimal_is n small) (length-decimal-le k n some h (omega arith))

-- the front of a column, before its last digit: blanks, or a column that is one narrower
pub column_digit : (width before n : ℕ) → before ≡ width - 1 → n < 10 → column width n ≡ replicate before 32 ++ (48 + n % 10) ∷ []
column_digit width before n e h =
    let same : n % 10 ≡ n = omega arith in
    rw (one_digit n h, same, e) refl

pub column_more : (width before n : ℕ) → before ≡ width - 1 → 10 ≤ n → n < 10 ^ 10 → column width n ≡ column before (n / 10) ++ (48 + n % 10) ∷ []
column_more width before n e more h =
    let pad : width - length (decimal (n / 10) ++ (48 + n % 10) ∷ []) ≡ before - length (decimal (n / 10)) = simp length_push (omega arith) in
    rw (last_digit n more h, pad) (simp append_assoc)

pub length-column : (width n : ℕ) → width ≤ 10 → n < 10 ^ 10 → length (column width n) ≤ 10
length-column width n narrow h =
    simp (length-append, length-replicate) (omega (arith, length-decimal 10 n (omega arith) h h))

-- pushing the front of a column and then its last digit pushes the column
module _ (width n digit : ℕ) (front : List ℕ) (narrow : width ≤ 10) (small : n < 10 ^ 10) (split : column width n ≡ front ++ digit ∷ []) where
  length-split : length (column width n) ≡ length front + 1
  length-split = ap length split ∙ length_push front digit

  pub length_front : length front < 10
  length_front = omega (arith, length-split, length-column width n narrow small)

  pub last_pushed : (xs ys zs : List ℕ) → ys ≡ xs ++ front → zs ≡ ys ++ digit ∷ [] → zs ≡ xs ++ column width n
  last_pushed xs ys zs e f = rw (f, e, split) (append_assoc xs front (digit ∷ []))

  pub last_counted : (k l m : ℕ) → l ≡ k + length front → m ≡ l + 1 → (m ≡ k + length (column width n)) × (m ≤ k + 10)
  last_counted k l m e f = (omega (arith, length-split), omega (arith, length_front))
