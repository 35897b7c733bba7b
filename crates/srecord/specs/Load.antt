-- Taking a record line while a memory is loaded.
use Rattle.std.specs.Prelude.{◌≡◌, ℕ, zero, suc, ◌+◌, ◌-◌, ◌*◌, ◌/◌, ◌<◌, Bool, true, false, cond, List, length, is_ok, Ok, Err, Result, ◌≢◌, nat_le, slice_index}
use Rattle.bus.specs.Cell.{Cells, open_cell, store_answer, stored}
use Rattle.bus.specs.declared.cell.BusRefusal.{BusRefusal}
use Rattle.srecord.specs.declared.refusal.LineRefusal.{LineRefusal}
use Rattle.srecord.specs.declared.refusal.LineRefusal.TheVariants.{AfterEnd, PastTheEnd, NotOpen}
use Rattle.srecord.specs.Digits.{byte_of, byte_at, address_of}
use Rattle.srecord.specs.Reader.{record_of}
use Rattle.srecord.specs.Record.{Parsed, header_parsed, data_parsed, end_parsed}

-- what the bus says of a byte for an address, as the refusal of a line
abbrev pub open_answer : ℕ → Result Unit BusRefusal → Result Unit LineRefusal
open_answer address (Ok done) = Ok tt
open_answer address (Err refusal) = Err (NotOpen address refusal)

-- the first of two refusals
abbrev pub first_refusal : Result Unit LineRefusal → Result Unit LineRefusal → Result Unit LineRefusal
first_refusal (Ok done) next = next
first_refusal (Err refusal) next = Err refusal

-- whether the cells from an address on are open: of those that are not, the lowest is refused
abbrev pub open_from : Cells → ℕ → ℕ → Result Unit LineRefusal
open_from cells address zero = Ok tt
open_from cells address (suc n) = first_refusal (open_from cells address n) (open_answer (address + n) (store_answer (cells (address + n))))

-- the memory once the first bytes that digits spell were stored from an address on
abbrev pub stored_data : Cells → ℕ → List ℕ → ℕ → Cells
stored_data cells address digits zero = cells
stored_data cells address digits (suc n) = stored (stored_data cells address digits n) (address + n) (byte_at digits n)

-- data has to end at 65,535 or below, and to meet only open cells
abbrev pub data_answer : Cells → ℕ → List ℕ → Result Unit LineRefusal
data_answer cells address digits = cond (nat_le (address + length digits / 2) 65536) (open_from cells address (length digits / 2)) (Err PastTheEnd)

-- data that is refused stores nothing
abbrev pub data_memory : Cells → ℕ → List ℕ → Cells
data_memory cells address digits = cond (is_ok (data_answer cells address digits)) (stored_data cells address digits (length digits / 2)) cells

-- what taking a line answers, whether loading has ended, and the memory
pub record Taken : Type 0 where
  pub answer : Result Unit LineRefusal
  pub is_ended : Bool
  pub memory : Cells

-- a header stores nothing, data is stored, and an end record ends loading
abbrev pub record_taken : Cells → Parsed → Taken
record_taken cells (header_parsed digits) = record { answer = Ok tt; is_ended = false; memory = cells }
record_taken cells (data_parsed address digits) = record { answer = data_answer cells (address_of address) digits; is_ended = false; memory = data_memory cells (address_of address) digits }
record_taken cells (end_parsed address) = record { answer = Ok tt; is_ended = true; memory = cells }

-- a line that is no record changes nothing
abbrev pub read_taken : Cells → Result Parsed LineRefusal → Taken
read_taken cells (Ok parsed) = record_taken cells parsed
read_taken cells (Err refusal) = record { answer = Err refusal; is_ended = false; memory = cells }

-- nothing is taken after an end record
abbrev pub line_taken : Bool → Cells → List ℕ → Taken
line_taken true cells line = record { answer = Err AfterEnd; is_ended = true; memory = cells }
line_taken false cells line = read_taken cells (record_of line)

-- the count of a line, which characters 2 and 3 spell
abbrev pub count_in : List ℕ → ℕ
count_in line = byte_of (slice_index line 2) (slice_index line 3)

-- the address of a line, which characters 4 to 7 spell
abbrev pub address_in : List ℕ → ℕ
address_in line = 256 * byte_of (slice_index line 4) (slice_index line 5) + byte_of (slice_index line 6) (slice_index line 7)

-- a data line has the kind `1`
abbrev pub DataLine : List ℕ → Type 0
DataLine line = slice_index line 1 ≡ 49

-- what a data line leaves: each cell of its data shows the byte that two characters spell, and every other cell keeps
pub record DataSpelled (line : List ℕ) (before after : Cells) : Type 0 where
  pub spelled : (n : ℕ) → n < count_in line - 3 → after (address_in line + n) ≡ open_cell (byte_of (slice_index line (8 + 2 * n)) (slice_index line (9 + 2 * n)))
  pub kept : (a : ℕ) → ((n : ℕ) → n < count_in line - 3 → a ≢ address_in line + n) → after a ≡ before a
