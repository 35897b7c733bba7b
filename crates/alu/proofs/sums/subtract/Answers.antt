use Rattle.alu.proofs.Differences.{whole, compared}
use Rattle.alu.proofs.sums.subtract.Goals as goal

pub returns-clause-whole : goal.returns-clause-whole
returns-clause-whole g c =
    let e = c.difference_and_flags.ensures in
    whole _ _ _ _ g.met.N.Unsigned.at_least_one_bit e.fits.0 e.fits.1 c.args.flags _ _ e.value

pub returns-clause-compared : goal.returns-clause-compared
returns-clause-compared g c =
    let e = c.difference_and_flags.ensures in
    compared _ _ _ _ g.met.N.Unsigned.at_least_one_bit e.fits.0 e.fits.1 c.args.flags _ _ e.value
