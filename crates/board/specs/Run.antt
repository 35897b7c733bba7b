-- A run: steps one after the other.
use Rattle.std.specs.Prelude.{ℕ, zero, suc, ◌+◌, cond, Some, None, Ok, Err, Option, Result, nat_le}
use Rattle.isa.specs.Law.{Table}
use Rattle.board.specs.declared.refusal.Refusal.{Refusal}
use Rattle.board.specs.declared.refusal.Refusal.TheVariants.{BudgetTooLarge}
use Rattle.state.specs.declared.live.Live.{Live}
use Rattle.board.specs.Live.{step_taken}
use Rattle.board.specs.Refusal.{refusal_number}
use Rattle.board.specs.Situation.{Situation}

-- the steps taken, their cycles and the number of the refusal that ended the run, with the situation it ends in
abbrev pub Ran : Type 0 → Type 0
Ran C = (ℕ × ℕ × ℕ) × Situation C Live

-- the number of the refusal that ended a run; 0 where its budget was spent
abbrev pub end_number : Option Refusal → ℕ
end_number (Some refusal) = refusal_number refusal
end_number None = 0

-- steps and cycles put before a run
abbrev pub put_before : {C : Type 0} → ℕ → ℕ → Ran C → Ran C
put_before steps cycles ran = ((steps + ran.0.0, cycles + ran.0.1, ran.0.2), ran.1)

-- after a step: a taken one is counted before the rest of the run, a refused one ends it
abbrev pub run_on : {C : Type 0} → (Situation C Live → Ran C) → Result ℕ Refusal × Situation C Live → Ran C
run_on rest (Ok cycles, s) = put_before 1 cycles (rest s)
run_on rest (Err refusal, s) = ((0, 0, refusal_number refusal), s)

-- a run of so many steps
abbrev pub run_taken : {C : Type 0} → (C → Table) → (C → ℕ) → ℕ → Situation C Live → Ran C
run_taken table figure zero s = ((0, 0, 0), s)
run_taken table figure (suc n) s = run_on (run_taken table figure n) (step_taken table figure s)

-- the answer of a run, and what it leaves
abbrev pub ran_well : {C : Type 0} → Ran C → Result (ℕ × ℕ × ℕ) Refusal × Situation C Live
ran_well ran = (Ok ran.0, ran.1)

-- a run with a budget: one above 65,535 is refused before any step
abbrev pub run_given : {C : Type 0} → (C → Table) → (C → ℕ) → ℕ → Situation C Live → Result (ℕ × ℕ × ℕ) Refusal × Situation C Live
run_given table figure budget s = cond (nat_le budget 65535) (ran_well (run_taken table figure budget s)) (Err BudgetTooLarge, s)
