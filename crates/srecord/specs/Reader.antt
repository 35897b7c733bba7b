-- Reading a record line.
use Rattle.std.specs.Prelude.{ℕ, ◌+◌, ◌-◌, ◌*◌, Bool, cond, ◌&&◌, List, length, take, drop, Ok, Err, Result, ◌==◌, nat_le, slice_index}
use Rattle.srecord.specs.declared.record.Kind.{Kind}
use Rattle.srecord.specs.declared.refusal.LineRefusal.{LineRefusal}
use Rattle.srecord.specs.declared.refusal.LineRefusal.TheVariants.{NoRecord, NotHexadecimal, WrongLength, WrongChecksum}
use Rattle.srecord.specs.Checksum.{checksum_of}
use Rattle.srecord.specs.Digits.{all_digits, byte_at}
use Rattle.srecord.specs.Record.{Parsed, kind_of, count_allowed, parsed_of}

-- the first byte is the count of those after it: a line of 4 + 2 × count characters has 2 + 2 × count digits
abbrev pub right_length : Kind → List ℕ → Bool
right_length kind digits = length digits == 2 + 2 * byte_at digits 0 && nat_le 3 (byte_at digits 0) && count_allowed kind (byte_at digits 0)

-- whether the last byte is the checksum of those before it
abbrev pub right_checksum : List ℕ → Bool
right_checksum digits = byte_at digits (byte_at digits 0) == checksum_of digits (byte_at digits 0)

-- after the two digits of the count come the four of the address
abbrev pub address_digits : List ℕ → List ℕ
address_digits digits = take 4 (drop 2 digits)

-- and those of the data; the count is that of the data, the address and the checksum
abbrev pub data_digits : List ℕ → List ℕ
data_digits digits = take (2 * (byte_at digits 0 - 3)) (drop 6 digits)

-- what the digits after a kind say
abbrev pub record_of_digits : Kind → List ℕ → Result Parsed LineRefusal
record_of_digits kind digits =
    cond (all_digits digits)
    (cond (right_length kind digits)
    (cond (right_checksum digits) (Ok (parsed_of kind (address_digits digits) (data_digits digits))) (Err WrongChecksum))
    (Err WrongLength))
    (Err NotHexadecimal)

-- the same after a kind that may be unknown
abbrev pub record_of_kind : Result Kind LineRefusal → List ℕ → Result Parsed LineRefusal
record_of_kind (Ok kind) digits = record_of_digits kind digits
record_of_kind (Err refusal) digits = Err refusal

-- what a line says: after `S` and the kind come digits
abbrev pub record_of : List ℕ → Result Parsed LineRefusal
record_of line = cond (nat_le 10 (length line) && slice_index line 0 == 83) (record_of_kind (kind_of (slice_index line 1)) (drop 2 line)) (Err NoRecord)
