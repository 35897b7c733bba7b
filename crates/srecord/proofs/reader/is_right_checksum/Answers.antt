use Rattle.std.proofs.Common.{◌≡◌, ◌-◌, ◌*◌, ◌/◌, ◌%◌, drop, length, ap, ◌∙◌, arith}
use Rattle.srecord.specs.Checksum.{sum_of_bytes, checksum_of}
use Rattle.srecord.specs.Digits.{byte_at}
use Rattle.srecord.proofs.Bytes.{sum_before, byte_after}
use Rattle.srecord.proofs.reader.is_right_checksum.Goals as goal

pub returns : goal.returns
returns c =
    let digits = c.args.digits.characters.now in
    let count = byte_at digits 0 in
    let place : c.len.result - 2 ≡ 2 * count = omega arith in
    let half : length c.split_at.result.0.characters.now / 2 ≡ count = omega arith in
    let sum : sum_of_bytes c.split_at.result.0.characters.now count ≡ sum_of_bytes digits count = rw c.split_at.ensures.before (sum_before digits (c.len.result - 2) count (omega arith)) in
    let summed : c.checksum.result ≡ checksum_of digits count = c.checksum.ensures ∙ (ap (checksum_of c.split_at.result.0.characters.now) half ∙ ap (λ s. 255 - s % 256) sum) in
    let last : c.byte.result ≡ byte_at digits count = c.byte.ensures ∙ (ap (λ cs. byte_at cs 0) (c.split_at.ensures.after ∙ ap (λ k. drop k digits) place) ∙ byte_after digits count) in
    cc
