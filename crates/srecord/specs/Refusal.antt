-- The numbers of the refusals.
use Rattle.std.specs.Prelude.{ℕ}
use Rattle.srecord.specs.declared.refusal.LineRefusal.{LineRefusal}
use Rattle.srecord.specs.declared.refusal.LineRefusal.TheVariants.{AfterEnd, NoRecord, UnknownKind, NotHexadecimal, WrongLength, WrongChecksum, PastTheEnd, NotOpen}

-- the number of a refusal
abbrev pub line_number : LineRefusal → ℕ
line_number AfterEnd = 10
line_number NoRecord = 11
line_number UnknownKind = 12
line_number NotHexadecimal = 13
line_number WrongLength = 14
line_number WrongChecksum = 15
line_number PastTheEnd = 16
line_number (NotOpen address refusal) = 17
