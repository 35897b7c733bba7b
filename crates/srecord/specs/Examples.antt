-- Lines, and what the definitions say of them.
use Rattle.std.specs.Prelude.{◌≡◌, ℕ, false, List, Ok, Err, codes}
use Rattle.bus.specs.Cell.{Cells, open_cell}
use Rattle.srecord.specs.declared.refusal.LineRefusal.TheVariants.{WrongChecksum}
use Rattle.srecord.specs.Digits.{address_of}
use Rattle.srecord.specs.Load.{line_taken}
use Rattle.srecord.specs.Reader.{record_of}
use Rattle.srecord.specs.Record.{data_parsed}

-- a data record for the two highest cells
abbrev pub right_line : List ℕ
right_line = codes "S105FFFE80007D"

-- the same with another checksum
abbrev pub wrong_line : List ℕ
wrong_line = codes "S105FFFE80007E"

-- a memory of which every cell is open and shows 0xFF
abbrev pub clear : Cells
clear a = open_cell 0xFF

-- the first line is read and stored, and the second is refused
abbrev pub RecordExamples : Type 0
RecordExamples =
    (record_of right_line ≡ Ok (data_parsed (codes "FFFE") (codes "8000")))
    × (address_of (codes "FFFE") ≡ 0xFFFE)
    × ((line_taken false clear right_line).answer ≡ Ok tt)
    × ((line_taken false clear right_line).memory 0xFFFE ≡ open_cell 0x80)
    × ((line_taken false clear right_line).memory 0xFFFF ≡ open_cell 0x00)
    × (record_of wrong_line ≡ Err WrongChecksum)
    × ((line_taken false clear wrong_line).answer ≡ Err WrongChecksum)
