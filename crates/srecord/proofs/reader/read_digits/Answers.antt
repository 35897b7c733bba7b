use Rattle.std.proofs.Common.{◌≡◌, ◌-◌, ◌*◌, true, take, drop, Ok, sym, ap, ◌∙◌, arith}
use Rattle.std.proofs.lemmas.Bool.{cond-true}
use Rattle.std.proofs.lemmas.List.{drop-drop}
use Rattle.srecord.specs.Digits.{byte_at}
use Rattle.srecord.specs.Reader.{address_digits, data_digits, right_length, right_checksum, record_of_digits}
use Rattle.srecord.specs.Record.{parsed_of}
use Rattle.srecord.proofs.Reading.{counted}
use Rattle.srecord.proofs.reader.read_digits.Goals as goal

pub returns : goal.returns
returns c =
    let digits = c.in_ok-digits.digits.characters.now in
    let right : right_length c.args.kind digits ≡ true = sym c.if-not-is_right_length.ensures in
    let summed : right_checksum digits ≡ true = sym c.if-not-is_right_checksum.ensures in
    let long = counted c.args.kind digits right in
    let size : c.len.result - 2 ≡ 2 * (byte_at digits 0 - 3) = omega arith in
    let address : c.split_at-2.result.0.characters.now ≡ address_digits digits = c.split_at-2.ensures.before ∙ ap (take 4) c.split_at.ensures.after in
    let stored : c.split_at-3.result.0.characters.now ≡ data_digits digits = c.split_at-3.ensures.before ∙ (ap (λ n. take n c.split_at-2.result.1.characters.now) size ∙ ap (take (2 * (byte_at digits 0 - 3))) (c.split_at-2.ensures.after ∙ (ap (drop 4) c.split_at.ensures.after ∙ drop-drop 4 2 digits))) in
    let read : record_of_digits c.args.kind digits ≡ Ok (parsed_of c.args.kind (address_digits digits) (data_digits digits)) = cond-true _ _ _ c.in_ok-digits.digits.hexadecimal ∙ (cond-true _ _ _ right ∙ cond-true _ _ _ summed) in
    ap Ok (c.record.ensures ∙ (ap (λ a. parsed_of c.args.kind a c.split_at-3.result.0.characters.now) address ∙ ap (parsed_of c.args.kind (address_digits digits)) stored)) ∙ (sym read ∙ ap (record_of_digits c.args.kind) c.in_ok-digits.ensures)
