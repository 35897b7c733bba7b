-- What a record line says.
use Rattle.std.specs.Prelude.{ℕ, Bool, true, cond, List, Ok, Err, Result, ◌==◌}
use Rattle.srecord.specs.declared.record.Kind.{Kind}
use Rattle.srecord.specs.declared.record.Kind.TheVariants.{Header, Data, End}
use Rattle.srecord.specs.declared.record.Record.{Record}
use Rattle.srecord.specs.declared.record.Record.TheVariants.{Header as HeaderRecord, Data as DataRecord, End as EndRecord}
use Rattle.srecord.specs.declared.refusal.LineRefusal.{LineRefusal}
use Rattle.srecord.specs.declared.refusal.LineRefusal.TheVariants.{UnknownKind}

-- the digits of a record, apart from the line that they were borrowed from
pub data Parsed : Type 0 where
  header_parsed : List ℕ → Parsed
  data_parsed : List ℕ → List ℕ → Parsed
  end_parsed : List ℕ → Parsed

-- what a record says
abbrev pub parsed_by : Record → Parsed
parsed_by (HeaderRecord digits) = header_parsed digits.characters.now
parsed_by (DataRecord address digits) = data_parsed address.digits.characters.now digits.characters.now
parsed_by (EndRecord address) = end_parsed address.digits.characters.now

-- what an answer of the reader says
abbrev pub answer_parsed : Result Record LineRefusal → Result Parsed LineRefusal
answer_parsed (Ok record') = Ok (parsed_by record')
answer_parsed (Err refusal) = Err refusal

-- the kind of a record, by the character `0`, `1` or `9`
abbrev pub kind_of : ℕ → Result Kind LineRefusal
kind_of c = cond (c == 48) (Ok Header) (cond (c == 49) (Ok Data) (cond (c == 57) (Ok End) (Err UnknownKind)))

-- an end record has an address and no data
abbrev pub count_allowed : Kind → ℕ → Bool
count_allowed Header count = true
count_allowed Data count = true
count_allowed End count = count == 3

-- the record of a kind, with its address and data digits
abbrev pub parsed_of : Kind → List ℕ → List ℕ → Parsed
parsed_of Header address digits = header_parsed digits
parsed_of Data address digits = data_parsed address digits
parsed_of End address digits = end_parsed address
