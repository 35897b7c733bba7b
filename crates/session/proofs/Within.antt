-- A text has no more lines than characters. Assumes nothing.
use Rattle.std.proofs.Common.{ℕ, ◌+◌, ◌≤◌, Bool, true, false, cond, eqb, List, [], ◌∷◌, length, arith}
use Rattle.console.specs.Lines.{longer_first, lines_of}

one_more : (c : ℕ) (lines : List (List ℕ)) → length (longer_first c lines) ≤ length lines + 1
one_more c [] = omega arith
one_more c (line ∷ lines) = omega arith

either : (c : ℕ) (lines : List (List ℕ)) (feed : Bool) → length (cond feed ([] ∷ lines) (longer_first c lines)) ≤ length lines + 1
either c lines true = omega arith
either c lines false = one_more c lines

pub lines_within : (text : List ℕ) → length (lines_of text) ≤ length text
lines_within [] = omega arith
lines_within (c ∷ cs) = omega (arith, either c (lines_of cs) (eqb c 10), lines_within cs)
