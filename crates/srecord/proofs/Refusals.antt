-- A test that decides between going on and a refusal.
use Rattle.std.proofs.Common.{◌≡◌, ℕ, Bool, true, false, cond, Ok, Err, Result, refl, arith}

module _ {X E : Type 0} where
  -- a refusal is no answer
  pub never_both : {G : Type 0} {refusal : E} {got : X} → ◌≡◌ {A = Result X E} (Err refusal) (Ok got) → G
  never_both is = let never : ◌≡◌ {A = ℕ} 0 1 = cc in absurd (omega arith)

  -- what went on has passed the test
  pub passed : (test : Bool) (refusal : E) (answer : Result X E) (got : X) → cond test answer (Err refusal) ≡ Ok got → (test ≡ true) × (answer ≡ Ok got)
  passed true refusal answer got is = (refl, is)
  passed false refusal answer got is = never_both is
