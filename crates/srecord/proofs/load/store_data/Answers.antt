use Rattle.std.proofs.Common.{◌≡◌, ap, ◌∙◌, arith}
use Rattle.std.specs.Iterator.Adapters.{zip_first, zip_second}
use Rattle.srecord.specs.declared.hex_digits.Bytes.{Bytes}
use Rattle.srecord.proofs.Loading.{stored_all, count_of_bytes}
use Rattle.srecord.proofs.load.store_data.Goals as goal

pub loop-place-init : goal.loop-place-init
loop-place-init g c =
    let digits = c.args.digits.characters.now in
    let same = c.into_iter-place-iterator.ensures.into_iter_gives in
    let places = ap zip_first same ∙ c.zip-place-items.ensures.first in
    let bytes = ap (λ (b : Bytes). b.rest) (ap zip_second same ∙ c.zip-place-items.ensures.second) ∙ c.bytes.ensures in
    let first : (zip_first c.into_iter-place-iterator.result).start ≡ c.args.address = ap (λ r. r.start) places ∙ c.from-first.ensures in
    let count = count_of_bytes digits in
    (ap (λ r. r.end) places, rw (first, bytes) (omega (arith, count)), rw (first, bytes) (stored_all (g.B.Bus.cells c.args.bus.now) c.args.address digits))
