-- The lowest line of a set: as many zeros as the set has below it.
use Rattle.std.proofs.Common.{ℕ, ◌^◌, ◌<◌, arith}
use Rattle.std.specs.Int.{w32, trailing_zeros}
use Rattle.std.proofs.lemmas.Nat.Bits.{bit_at-trailing_zeros}
use Rattle.std.proofs.lemmas.Bool.Decides.{nat_tests}
use Rattle.state.specs.Lines.{Lowest}

-- as many zeros as a set has below its lowest line, that line is
pub lowest : (lines : ℕ) → 0 < lines → lines < 2 ^ 32 → Lowest lines (trailing_zeros w32 lines)
lowest lines p h =
    let found = bit_at-trailing_zeros w32 lines p h in
    record { raised = grind (arith, nat_tests); others = λ k l. let is = found.2 k l in grind (arith, nat_tests) }
