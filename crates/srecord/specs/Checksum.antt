-- The checksum of a record.
use Rattle.std.specs.Prelude.{ℕ, zero, suc, ◌+◌, ◌-◌, ◌%◌, List}
use Rattle.srecord.specs.Digits.{byte_at}

-- the sum of the first bytes that digits spell
abbrev pub sum_of_bytes : List ℕ → ℕ → ℕ
sum_of_bytes digits zero = 0
sum_of_bytes digits (suc n) = sum_of_bytes digits n + byte_at digits n

-- the ones' complement of the low byte of that sum
abbrev pub checksum_of : List ℕ → ℕ → ℕ
checksum_of digits count = 255 - sum_of_bytes digits count % 256
