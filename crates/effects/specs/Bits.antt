-- Bits of a memory byte.
use Rattle.std.specs.Prelude.{ℕ, Bool, not}
use Rattle.alu.specs.Bits.{bit_of, with_bit, without_bit}
use Rattle.alu.specs.Flags.{with_c}
use Rattle.isa.specs.declared.operation.BitNumber.{BitNumber}
use Rattle.isa.specs.declared.operation.BitNumber.TheVariants.{B0, B1, B2, B3, B4, B5, B6, B7}
use Rattle.isa.specs.declared.operation.BitChange.{BitChange}
use Rattle.isa.specs.declared.operation.BitChange.TheVariants.{Bset, Bclr}
use Rattle.isa.specs.declared.operation.BitBranch.{BitBranch}
use Rattle.isa.specs.declared.operation.BitBranch.TheVariants.{Brset, Brclr}
use Rattle.state.specs.declared.registers.Registers.{Registers}
use Rattle.state.specs.Registers.{with_flags}
use Rattle.effects.specs.Branch.{branched_by}

-- the place of a bit, counted from the lowest
abbrev pub place_of : BitNumber → ℕ
place_of B0 = 0
place_of B1 = 1
place_of B2 = 2
place_of B3 = 3
place_of B4 = 4
place_of B5 = 5
place_of B6 = 6
place_of B7 = 7

-- BSET sets the bit, BCLR clears it
abbrev pub bit_changed : BitChange → ℕ → ℕ
bit_changed (Bset bit) b = with_bit 8 b (place_of bit)
bit_changed (Bclr bit) b = without_bit 8 b (place_of bit)

-- C becomes the tested bit, whether the branch is taken or not
abbrev pub after_test : Bool → Bool → ℕ → Registers → Registers
after_test bit taken offset r = branched_by taken offset (with_flags (with_c bit r.flags) r)

-- BRSET branches where the bit is set, BRCLR where it is clear
abbrev pub branched_on : BitBranch → ℕ → ℕ → Registers → Registers
branched_on (Brset bit) b offset r = after_test (bit_of 8 b (place_of bit)) (bit_of 8 b (place_of bit)) offset r
branched_on (Brclr bit) b offset r = after_test (bit_of 8 b (place_of bit)) (not (bit_of 8 b (place_of bit))) offset r
