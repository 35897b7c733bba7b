-- The opcode maps of the first set, sixteen opcodes to a line.
use Rattle.std.specs.Prelude.{List, [], ◌∷◌, replicate}
use Rattle.isa.specs.declared.operation.Condition.TheVariants.{Bge, Blt, Bgt, Ble}
use Rattle.isa.specs.declared.operation.ReadModifyWrite.TheVariants.{Neg, Com, Lsr, Ror, Asr, Lsl, Rol, Dec, Inc, Tst, Clr}
use Rattle.isa.specs.declared.operation.WordOperation.TheVariants.{Ldhx, Cphx}
use Rattle.isa.specs.declared.operation.Pointer.TheVariants.{Ais, Aix}
use Rattle.isa.specs.declared.operation.RegisterOnly.TheVariants.{Mul, Div, Nsa, Daa, Tap, Tpa, Clrh, Txs, Tsx, Tax, Txa, Clc, Sec, Cli, Sei, Rsp, Nop}
use Rattle.isa.specs.declared.operation.Standstill.TheVariants.{Stop, Wait, Bgnd}
use Rattle.isa.specs.declared.row.Mode.{Mode}
use Rattle.isa.specs.declared.row.Mode.TheVariants.{InherentA, InherentX, Immediate}
use Rattle.isa.specs.declared.row.Page.{Page}
use Rattle.isa.specs.declared.row.Page.TheVariants.{First, Second}
use Rattle.isa.specs.Law.{Table}
use Rattle.isa.specs.Maps.{Place, Map, Own, ··, rel, rmw, hx, ptr, inh, rest, blanks, combining, line_2, place}
use Rattle.isa.specs.Tables.{table_of}
use Rattle.isa.specs.Timing.{figures}

-- a line of changes of A or of X, but for two places
abbrev pub changing : Mode → Place → Place → List Place
changing m at_2 at_5 =
    rmw Neg m ∷ ·· ∷ at_2 ∷ rmw Com m ∷ rmw Lsr m ∷ at_5 ∷ rmw Ror m ∷ rmw Asr m ∷ rmw Lsl m ∷ rmw Rol m ∷ rmw Dec m ∷ ·· ∷ rmw Inc m ∷ rmw Tst m ∷ ·· ∷ rmw Clr m ∷ []

-- a line that is blank but for two places
abbrev pub adjusting : Place → Place → List Place
adjusting at_2 at_5 = ·· ∷ ·· ∷ at_2 ∷ ·· ∷ ·· ∷ at_5 ∷ ·· ∷ ·· ∷ ·· ∷ ·· ∷ ·· ∷ ·· ∷ ·· ∷ ·· ∷ ·· ∷ ·· ∷ []

-- $80 to $8F: control
abbrev pub first_line_8 : Own → List Place
first_line_8 own = ·· ∷ ·· ∷ own (rest Bgnd) ∷ ·· ∷ inh Tap ∷ inh Tpa ∷ ·· ∷ ·· ∷ ·· ∷ ·· ∷ ·· ∷ ·· ∷ inh Clrh ∷ ·· ∷ rest Stop ∷ rest Wait ∷ []

-- $90 to $9F: signed branches, transfers and flags
abbrev pub first_line_9 : List Place
first_line_9 = rel Bge ∷ rel Blt ∷ rel Bgt ∷ rel Ble ∷ inh Txs ∷ inh Tsx ∷ ·· ∷ inh Tax ∷ inh Clc ∷ inh Sec ∷ inh Cli ∷ inh Sei ∷ inh Rsp ∷ inh Nop ∷ ·· ∷ inh Txa ∷ []

-- the sixteen lines of a page: the first set has none of the second
abbrev pub first_lines : Own → Page → List (List Place)
first_lines own First =
    blanks ∷ blanks ∷ line_2 ∷ blanks ∷ changing InherentA (inh Mul) (hx Ldhx Immediate) ∷ changing InherentX (inh Div) ·· ∷ adjusting (inh Nsa) (hx Cphx Immediate) ∷ adjusting (inh Daa) ·· ∷ first_line_8 own ∷ first_line_9 ∷ combining Immediate (ptr Ais) ·· ·· (ptr Aix) ∷ blanks ∷ blanks ∷ blanks ∷ blanks ∷ blanks ∷ []
first_lines own Second = replicate 16 blanks

-- a map of the first set, by its lines
abbrev pub first_map : Own → Map
first_map own page opcode = place (first_lines own page) opcode

-- the first set of the CPU08
abbrev pub first_cpu08_table : Table
first_cpu08_table = table_of (first_map (λ p. ··)) (λ o m. (figures o m).cpu08)

-- the first set of the HCS08: BGND is its own
abbrev pub first_hcs08_table : Table
first_hcs08_table = table_of (first_map (λ p. p)) (λ o m. (figures o m).hcs08)
