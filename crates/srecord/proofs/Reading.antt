-- What a line that is read without a refusal has.
use Rattle.std.proofs.Common.{◌≡◌, ℕ, ◌+◌, ◌*◌, ◌≤◌, true, ◌&&◌, eqb, leb, List, length, get_or, drop, Ok, Err, Result, refl}
use Rattle.std.proofs.lemmas.Bool.{and_parts, eqb-true, leb-true}
use Rattle.srecord.specs.declared.record.Kind.{Kind}
use Rattle.srecord.specs.declared.refusal.LineRefusal.{LineRefusal}
use Rattle.srecord.specs.Digits.{byte_at, all_digits}
use Rattle.srecord.specs.Reader.{right_length, right_checksum, address_digits, data_digits, record_of_kind, record_of}
use Rattle.srecord.specs.Record.{Parsed, kind_of, count_allowed, parsed_of}
use Rattle.srecord.proofs.Refusals.{never_both, passed}

-- as many digits as the count says
pub counted : (kind : Kind) (digits : List ℕ) → right_length kind digits ≡ true → length digits ≡ 2 + 2 * byte_at digits 0
counted kind digits right =
    let count = byte_at digits 0 in
    let same = eqb (length digits) (2 + 2 * count) in
    eqb-true (length digits) (2 + 2 * count) (and_parts same (leb 3 count) (and_parts (same && leb 3 count) (count_allowed kind count) right).0).0

-- the digits after a kind, read to what they say
pub record Read (kind : Result Kind LineRefusal) (digits : List ℕ) (parsed : Parsed) : Type 0 where
  pub known : Kind
  pub kind_is : kind ≡ Ok known
  pub hexadecimal : all_digits digits ≡ true
  pub long : length digits ≡ 2 + 2 * byte_at digits 0
  pub parsed_is : parsed_of known (address_digits digits) (data_digits digits) ≡ parsed

pub digits_read : (kind : Result Kind LineRefusal) (digits : List ℕ) (parsed : Parsed) → record_of_kind kind digits ≡ Ok parsed → Read kind digits parsed
digits_read (Err refusal) digits parsed is = never_both is
digits_read (Ok kind) digits parsed is =
    let first = passed (all_digits digits) _ _ _ is in
    let second = passed (right_length kind digits) _ _ _ first.1 in
    let third = passed (right_checksum digits) _ _ _ second.1 in
    let same = third.1 in
    record { known = kind; kind_is = refl; hexadecimal = first.0; long = counted kind digits second.0; parsed_is = cc }

-- a line that was read has ten characters or more, and such digits
pub line_read : (line : List ℕ) (parsed : Parsed) → record_of line ≡ Ok parsed → (10 ≤ length line) × Read (kind_of (get_or line 1 0)) (drop 2 line) parsed
line_read line parsed is =
    let letter = eqb (get_or line 0 0) 83 in
    let begins = passed (leb 10 (length line) && letter) _ _ _ is in
    (leb-true 10 (length line) (and_parts (leb 10 (length line)) letter begins.0).0, digits_read _ _ _ begins.1)
