-- What holds of the first line of a text. Assumes nothing.
use Rattle.std.proofs.Common.{◌≡◌, ℕ, suc, ◌+◌, ◌-◌, ◌<◌, ◌≤◌, Bool, true, false, cond, eqb, ltb, ◌==◌, ◌≢◌, Some, None, List, [], ◌∷◌, length, take, drop, sym, refl, ap, ◌∙◌, inl, inr, ⊎_elim, add-one, arith}
use Rattle.std.specs.List.{AllByRecursion, position, position_or_len}
use Rattle.std.specs.Option.{unwrap_or}
use Rattle.std.proofs.lemmas.List.Recursion.{is_position_or_len}
use Rattle.std.proofs.lemmas.List.{take_rest, drop-drop, drop_all, length-drop, nil_from_length}
use Rattle.std.proofs.lemmas.Bool.{eqb-true, eqb-false, cases_lt, lt-ltb, le-ltb}
use Rattle.console.specs.Lines.{first_line, after_line, longer_first, lines_of, Splits}

-- a fact of a test, where it holds of both answers
decided : (c : ℕ) (P : Bool → Type 0) → (c ≡ 10 → P true) → (c ≢ 10 → P false) → (b : Bool) → (b ≡ true → c ≡ 10) → (b ≡ false → c ≢ 10) → P b
decided c P feed other true e n = feed (e refl)
decided c P feed other false e n = other (n refl)

by_feed : (c : ℕ) (P : Bool → Type 0) → (c ≡ 10 → P true) → (c ≢ 10 → P false) → P (eqb c 10)
by_feed c P feed other = decided c P feed other (eqb c 10) (eqb-true c 10) (eqb-false c 10)

pub length-line : (text : List ℕ) → length (first_line text) ≤ length text
length-line [] = omega arith
length-line (c ∷ cs) =
    by_feed c (λ b. length (cond b [] (c ∷ first_line cs)) ≤ suc (length cs)) (λ _. omega arith) (λ _. omega (arith, length-line cs))

pub take-line : (text : List ℕ) → take (length (first_line text)) text ≡ first_line text
take-line [] = refl
take-line (c ∷ cs) =
    by_feed c (λ b. take (length (cond b [] (c ∷ first_line cs))) (c ∷ cs) ≡ cond b [] (c ∷ first_line cs)) (λ _. refl) (λ _. ap (λ line. c ∷ line) (take-line cs))

pub drop-line : (text : List ℕ) → drop (suc (length (first_line text))) text ≡ after_line text
drop-line [] = refl
drop-line (c ∷ cs) =
    by_feed c (λ b. drop (length (cond b [] (c ∷ first_line cs))) cs ≡ cond b cs (after_line cs)) (λ _. refl) (λ _. drop-line cs)

pub line_feedless : (text : List ℕ) → AllByRecursion (λ c. c ≢ 10) (first_line text)
line_feedless [] = tt
line_feedless (c ∷ cs) = by_feed c (λ b. AllByRecursion (λ x. x ≢ 10) (cond b [] (c ∷ first_line cs))) (λ _. tt) (λ n. (n, line_feedless cs))

pub line_splits : (text : List ℕ) → Splits text (first_line text) (after_line text)
line_splits [] = inr (refl, refl)
line_splits (c ∷ cs) =
    by_feed c (λ b. Splits (c ∷ cs) (cond b [] (c ∷ first_line cs)) (cond b cs (after_line cs))) (λ e. inl (ap (λ x. x ∷ cs) e))
    (λ _. ⊎_elim (λ e. inl (ap (λ xs. c ∷ xs) e)) (λ e. inr (ap (λ xs. c ∷ xs) e.0, e.1)) (line_splits cs))

after_within : (text : List ℕ) → length (after_line text) ≤ length text
after_within [] = omega arith
after_within (c ∷ cs) =
    by_feed c (λ b. length (cond b cs (after_line cs)) ≤ suc (length cs)) (λ _. omega arith) (λ _. omega (arith, after_within cs))

pub after_shorter : (text : List ℕ) → 0 < length text → length (after_line text) < length text
after_shorter [] h = absurd (omega arith)
after_shorter (c ∷ cs) h =
    by_feed c (λ b. length (cond b cs (after_line cs)) < suc (length cs)) (λ _. omega arith) (λ _. omega (arith, after_within cs))

pub lines_step : (text : List ℕ) → 0 < length text → lines_of text ≡ first_line text ∷ lines_of (after_line text)
lines_step [] h = absurd (omega arith)
lines_step (c ∷ []) h =
    by_feed c (λ b. cond b ([] ∷ []) ((c ∷ []) ∷ []) ≡ cond b [] (c ∷ []) ∷ lines_of (cond b [] [])) (λ _. refl) (λ _. refl)
lines_step (c ∷ d ∷ cs) h =
    by_feed c (λ b. cond b ([] ∷ lines_of (d ∷ cs)) (longer_first c (lines_of (d ∷ cs))) ≡ cond b [] (c ∷ first_line (d ∷ cs)) ∷ lines_of (cond b (d ∷ cs) (after_line (d ∷ cs))))
    (λ _. refl) (λ _. ap (longer_first c) (lines_step (d ∷ cs) (omega arith)))

-- the line ends at the first line feed, or at the end
line_by_position : (text : List ℕ) → length (first_line text) ≡ position_or_len (λ c. c == 10) text
line_by_position =
    is_position_or_len (λ text. length (first_line text)) (λ c. c == 10) refl
    (λ c cs. by_feed c (λ b. length (cond b [] (c ∷ first_line cs)) ≡ cond b 0 (1 + length (first_line cs))) (λ _. refl) (λ _. omega arith))

capped : (n most : ℕ) → n ≤ most → unwrap_or (cond (ltb n most) (Some n) None) most ≡ n
capped n most h =
    ⊎_elim (λ before. rw (lt-ltb n most before) refl) (λ past. rw (le-ltb n most past) (omega arith)) (cases_lt n most)

pub length_by_position : (text : List ℕ) → unwrap_or (position (λ c. c == 10) text) (length text) ≡ length (first_line text)
length_by_position text = rw (sym (line_by_position text)) (capped (length (first_line text)) (length text) (length-line text))

pub line_is : (text line : List ℕ) (n : ℕ) → n ≡ length (first_line text) → line ≡ take n text → line ≡ first_line text
line_is text line n e f = f ∙ ap (λ k. take k text) e ∙ take-line text

-- what stands after the line begins with its line feed, or is empty
pub rest_after_feed : (text after : List ℕ) (n : ℕ) → n ≡ length (first_line text) → after ≡ drop n text → take (length after - 1) (drop 1 after) ≡ after_line text
rest_after_feed text after n e f =
    take_rest after 1 ∙ ap (drop 1) f ∙ drop-drop 1 n text ∙ ap (λ k. drop k text) (add-one n ∙ ap suc e) ∙ drop-line text

pub rest_at_end : (text after : List ℕ) (n : ℕ) → n ≡ length (first_line text) → after ≡ drop n text → length after ≡ 0 → after ≡ after_line text
rest_at_end text after n e f z =
    let past : length text ≤ suc n = omega (arith, length-drop n text, ap length f) in
    nil_from_length after z ∙ sym (drop_all (suc n) text past) ∙ ap (λ k. drop (suc k) text) e ∙ drop-line text

-- what else holds of the first line and the rest
pub record Laws (text line rest : List ℕ) : Type 0 where
  pub lines : lines_of text ≡ line ∷ lines_of rest
  pub splits : Splits text line rest
  pub feedless : AllByRecursion (λ c. c ≢ 10) line
  pub shorter : length rest < length text

pub laws : (text line rest : List ℕ) → 0 < length text → line ≡ first_line text → rest ≡ after_line text → Laws text line rest
laws text line rest h e f =
    rw (e, f) (record { lines = lines_step text h; splits = line_splits text; feedless = line_feedless text; shorter = after_shorter text h })
