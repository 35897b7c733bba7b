-- The interrupt lines, as a set of 32 bits: bit n is line n.
use Rattle.std.specs.Prelude.{◌≡◌, ℕ, ◌-◌, ◌*◌, ◌<◌, Bool, true, false}
use Rattle.std.specs.Int.Count.{count_trailing_zeros}
use Rattle.alu.specs.Bits.{bit_of, with_bit, without_bit}

-- whether a line is raised
abbrev pub is_raised : ℕ → ℕ → Bool
is_raised lines line = bit_of 32 lines line

-- the set with a line raised
abbrev pub with_line_raised : ℕ → ℕ → ℕ
with_line_raised lines line = with_bit 32 lines line

-- the set with a line dropped
abbrev pub with_line_dropped : ℕ → ℕ → ℕ
with_line_dropped lines line = without_bit 32 lines line

-- a line is the lowest one raised
pub record Lowest (lines line : ℕ) : Type 0 where
  pub raised : is_raised lines line ≡ true
  pub others : (other : ℕ) → other < line → is_raised lines other ≡ false

-- the line that is served: the lowest one raised
abbrev pub served_line : ℕ → ℕ
served_line lines = count_trailing_zeros 32 lines

-- where a line's vector stands
abbrev pub vector_of : ℕ → ℕ
vector_of line = 65534 - 2 * line
