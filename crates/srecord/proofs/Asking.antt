-- Cells that are asked in turn, up to the first that is not open.
use Rattle.std.proofs.Common.{◌≡◌, ℕ, zero, suc, ◌+◌, ◌-◌, ◌<◌, ◌≤◌, List, [], ◌∷◌, Some, None, Option, Ok, Err, Result, sym, ap, ◌∙◌, subst, add-zero, add-suc, arith}
use Rattle.std.specs.Fn.{Mut, Called}
use Rattle.std.specs.Iterator.{Yields}
use Rattle.std.specs.List.{FoldsTo}
use Rattle.std.specs.Option.{MatchOption}
use Rattle.std.specs.Range.{range_steps}
use Rattle.std.specs.Result.{IsErr, IsErrAnd}
use Rattle.std.specs.declared.ops.Range.{Range}
use Rattle.std.proofs.lemmas.Result.{err_from_is_err_and}
use Rattle.bus.specs.Cell.{Cells, store_answer}
use Rattle.srecord.specs.declared.refusal.LineRefusal.{LineRefusal}
use Rattle.srecord.specs.Load.{open_answer, open_from}

module _ (cells : Cells) (address : ℕ) where
  -- after open cells the next one decides
  pub open_more : (place : ℕ) (answer : Result Unit LineRefusal) → address ≤ place → open_from cells address (place - address) ≡ Ok tt → answer ≡ open_answer place (store_answer (cells place)) → open_from cells address (place + 1 - address) ≡ answer
  open_more place answer from opened is =
      let more : place + 1 - address ≡ suc (place - address) = omega arith in
      let here : address + (place - address) ≡ place = omega arith in
      rw (more, opened, here, is)

  refused_longer : (n more : ℕ) (refusal : LineRefusal) → open_from cells address n ≡ Err refusal → open_from cells address (n + more) ≡ Err refusal
  refused_longer n zero refusal is = rw (add-zero, is)
  refused_longer n (suc more) refusal is = rw (add-suc, refused_longer n more refusal is)

  -- a refusal is that of any longer run of cells
  pub refused_from : (n count : ℕ) (refusal : LineRefusal) → n ≤ count → open_from cells address n ≡ Err refusal → open_from cells address count ≡ Err refusal
  refused_from n count refusal within is =
      let whole : n + (count - n) ≡ count = omega arith in
      rw whole at (refused_longer n (count - n) refusal is)

-- the numbers of a range, one after the other
abbrev steps : Range ℕ → Option ℕ → Range ℕ → Type 0
steps = range_steps (λ a b. b - a) (λ a b. b ≡ a + 1)

module _ {F E : Type 0} {g : Mut F (ℕ × Unit {0}) (Result Unit LineRefusal)} (f : F) (inner : E → LineRefusal) (cells : Cells) (address count : ℕ)
    -- a call answers what the cell says, and leaves what is called
    (asks : (x : ℕ) (v : Result Unit LineRefusal) (q : F) → x < address + count → Called g f (x, tt) v q → (q ≡ f) × (v ≡ open_answer x (store_answer (cells x))))
    (answer : Result Unit LineRefusal) (u : Range ℕ) where
  -- a call at an open cell
  abbrev Opened : F → ℕ → F → Type 0
  Opened p x q = (v : Result Unit LineRefusal) × Called g p (x, tt) v q × (v ≡ Ok tt)

  -- how it ends: no cell is left, or one is not open
  abbrev Ends : F → Option ℕ → Type 0
  Ends j o = MatchOption o (answer ≡ Ok tt) (λ x. (v : Result Unit LineRefusal) × (h : F) × (e : E) × Called g j (x, tt) v h × (v ≡ Err (inner e)) × (IsErr answer × IsErrAnd answer (λ refusal. refusal ≡ inner e)))

  pub asked : (xs : List ℕ) (s t : Range ℕ) (o : Option ℕ) (j : F) →
      address ≤ s.start → s.start ≤ s.end → s.end ≡ address + count → open_from cells address (s.start - address) ≡ Ok tt →
      Yields steps s xs t → steps t o u → FoldsTo Opened f xs j → Ends j o → answer ≡ open_from cells address count
  asked [] s t None j from within end opened y last turns ends =
      let whole : s.start - address ≡ count = omega (arith, last.1.0, ap (λ (r : Range ℕ). r.start) y, ap (λ (r : Range ℕ). r.end) y) in
      ends ∙ (sym opened ∙ ap (open_from cells address) whole)
  asked [] s t (Some x) j from within end opened y last turns ends =
      let here : x ≡ s.start = last.1.1 ∙ sym (ap (λ (r : Range ℕ). r.start) y) in
      let below : x < address + count = omega (arith, last.1.0, here, ap (λ (r : Range ℕ). r.start) y, ap (λ (r : Range ℕ). r.end) y) in
      let said = asks x ends.0 ends.1 below (subst (λ k. Called g k (x, tt) ends.0 ends.1) (sym turns) ends.3) in
      let more = open_more cells address x ends.0 (omega (arith, here)) (rw here opened) said.1 in
      let exit = err_from_is_err_and answer ends.5.1 in
      exit.1 ∙ ap Err exit.2 ∙ sym (refused_from cells address (x + 1 - address) count (inner ends.2) (omega (arith, here)) (more ∙ ends.4))
  asked (x ∷ xs) s t o j from within end opened y last turns ends =
      let here : x ≡ s.start = y.1.1.1 in
      let said = asks x turns.1.0 turns.0 (omega (arith, here, y.1.1.0)) turns.1.1 in
      let more = open_more cells address x turns.1.0 (omega (arith, here)) (rw here opened) said.1 in
      let start : y.0.start ≡ x + 1 = y.1.1.2 ∙ ap (λ k. k + 1) (sym here) in
      asked xs y.0 t o j (omega (arith, start, here)) (omega (arith, y.1.0, y.1.1.0, y.1.1.2)) (y.1.0 ∙ end) (rw start (more ∙ turns.1.2)) y.2 last
      (subst (λ k. FoldsTo Opened k xs j) said.0 turns.2) ends
