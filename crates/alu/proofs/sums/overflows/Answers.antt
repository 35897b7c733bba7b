use Rattle.std.proofs.Common.{sym}
use Rattle.alu.proofs.Differences.{borrows_differ}
use Rattle.alu.proofs.sums.overflows.Goals as goal

pub returns : goal.returns
returns g c =
    rw (sym c.widen-a.ensures.value, sym c.widen-b.ensures.value)
    (borrows_differ _ _ _ _ _ _ c.BITS.ensures c.from-borrow.ensures g.met.N.Unsigned.at_least_one_bit g.met.N.Unsigned.at_most_32_bits c.widen-a.ensures.fits c.widen-b.ensures.fits)
