-- Zeros as an open memory.
use Rattle.std.proofs.Common.{◌≡◌, ℕ, List, replicate, refl, ⊎_elim}
use Rattle.std.proofs.Math.Path.{fun_ext}
use Rattle.std.proofs.lemmas.Bool.{cases_lt, lt-ltb, le-ltb}
use Rattle.std.proofs.lemmas.List.{get_or-replicate, length-replicate}
use Rattle.bus.specs.Open.{open_cells}
use Rattle.session.specs.Course.{zeroed}

-- as many zeros as there are addresses
pub zeros : (n : ℕ) (bytes : List ℕ) → bytes ≡ replicate n 0 → n ≡ 65536 → open_cells bytes ≡ zeroed
zeros n bytes e is = rw e (fun_ext (λ a.
    ⊎_elim
    (λ within. rw (get_or-replicate {A = ℕ} n a 0 0 (rw is within), length-replicate {A = ℕ} n 0, is, lt-ltb a 65536 within) refl)
    (λ past. rw (le-ltb a 65536 past) refl)
    (cases_lt a 65536)))
