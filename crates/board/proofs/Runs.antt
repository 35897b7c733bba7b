-- A run so far, put before the run that remains.
use Rattle.std.proofs.Common.{◌≡◌, ℕ, zero, suc, ◌+◌, ◌-◌, ◌<◌, Ok, Err, Result, sym, ap, ◌∙◌, add-zero, add_assoc, arith}
use Rattle.isa.specs.Law.{Table}
use Rattle.board.specs.declared.refusal.Refusal.{Refusal}
use Rattle.state.specs.declared.live.Live.{Live}
use Rattle.board.specs.Live.{step_taken}
use Rattle.board.specs.Refusal.{refusal_number}
use Rattle.board.specs.Run.{Ran, put_before, run_on, run_taken}
use Rattle.board.specs.Situation.{Situation}

pub put_put : {C : Type 0} (a b c d : ℕ) (ran : Ran C) → put_before a b (put_before c d ran) ≡ put_before (a + c) (b + d) ran
put_put a b c d ran =
    ap (λ (n : ℕ). ((n, b + (d + ran.0.1), ran.0.2), ran.1)) (sym (add_assoc a c ran.0.0))
    ∙ ap (λ (n : ℕ). ((a + c + ran.0.0, n, ran.0.2), ran.1)) (sym (add_assoc b d ran.0.1))

-- the whole run is the run so far, put before the run that remains
pub record SoFar {C : Type 0} (table : C → Table) (figure : C → ℕ) (budget steps cycles : ℕ) (s₀ s : Situation C Live) : Type 0 where
  pub whole : run_taken table figure budget s₀ ≡ put_before steps cycles (run_taken table figure (budget - steps) s)

-- the run that remains, by the step that comes next
remains : {C : Type 0} (table : C → Table) (figure : C → ℕ) (budget steps : ℕ) (s : Situation C Live) → steps < budget →
    run_taken table figure (budget - steps) s ≡ run_on (run_taken table figure (budget - (steps + 1))) (step_taken table figure s)
remains table figure budget steps s h =
    let e : budget - steps ≡ suc (budget - (steps + 1)) = omega arith in
    ap (λ (n : ℕ). run_taken table figure n s) e

module _ {C : Type 0} {table : C → Table} {figure : C → ℕ} {budget steps cycles : ℕ} {s₀ s : Situation C Live} (so_far : SoFar table figure budget steps cycles s₀ s) where
  -- the run so far, and then the step that comes next
  next : (s' : Situation C Live) (answer : Result ℕ Refusal) → steps < budget → (answer, s') ≡ step_taken table figure s →
      run_taken table figure budget s₀ ≡ put_before steps cycles (run_on (run_taken table figure (budget - (steps + 1))) (answer, s'))
  next s' answer h e =
      so_far.whole
      ∙ ap (put_before steps cycles) (remains table figure budget steps s h ∙ ap (run_on (run_taken table figure (budget - (steps + 1)))) (sym e))

  pub again : (s' : Situation C Live) (spent : ℕ) → steps < budget → (Ok spent, s') ≡ step_taken table figure s →
      SoFar table figure budget (steps + 1) (cycles + spent) s₀ s'
  again s' spent h e =
      record { whole = next s' (Ok spent) h e ∙ put_put steps cycles 1 spent (run_taken table figure (budget - (steps + 1)) s') }

  -- nothing more is counted
  counted : (number : ℕ) (end : Situation C Live) → ◌≡◌ {A = Ran C} (put_before steps cycles ((0, 0, number), end)) ((steps, cycles, number), end)
  counted number end =
      ap (λ (n : ℕ). ((n, cycles + 0, number), end)) (add-zero steps) ∙ ap (λ (n : ℕ). ((steps, n, number), end)) (add-zero cycles)

  pub refused : (s' : Situation C Live) (refusal : Refusal) → steps < budget → (Err refusal, s') ≡ step_taken table figure s →
      ◌≡◌ {A = Ran C} ((steps, cycles, refusal_number refusal), s') (run_taken table figure budget s₀)
  refused s' refusal h e = sym (next s' (Err refusal) h e ∙ counted (refusal_number refusal) s')

  pub spent_all : steps ≡ budget → ◌≡◌ {A = Ran C} ((steps, cycles, 0), s) (run_taken table figure budget s₀)
  spent_all is =
      let none : budget - steps ≡ zero = omega arith in
      sym (so_far.whole ∙ ap (λ (n : ℕ). put_before steps cycles (run_taken table figure n s)) none ∙ counted 0 s)
