use Rattle.std.proofs.Common.{sym}
use Rattle.alu.proofs.SingleBits.{set_only}
use Rattle.alu.proofs.bits.set_bit.Goals as goal

pub returns-then-place-BITS-clause-only : goal.returns-then-place-BITS-clause-only
returns-then-place-BITS-clause-only g c =
    λ place. rw (c.truncate.ensures, sym c.widen.ensures.value) (set_only _ _ _ place g.met.N.Unsigned.at_most_32_bits c.widen.ensures.fits)
