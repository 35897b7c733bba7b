-- Tests of bytes and words, and the bits of two bytes joined.
use Rattle.std.specs.Prelude.{ℕ, false, bit_and, bit_or, bit_xor}
use Rattle.alu.specs.declared.flags.Flags.{Flags}
use Rattle.alu.specs.Flags.{with_v, with_nz}

-- a number of w bits as it is, with V clear
abbrev pub test_of : ℕ → ℕ → Flags → ℕ × Flags
test_of w number f = (number, with_v false (with_nz w number f))

-- the bits that are set in both bytes
abbrev pub and_of : ℕ → ℕ → Flags → ℕ × Flags
and_of a b f = test_of 8 (bit_and a b) f

-- the bits that are set in either byte
abbrev pub or_of : ℕ → ℕ → Flags → ℕ × Flags
or_of a b f = test_of 8 (bit_or a b) f

-- the bits in which two bytes differ
abbrev pub exclusive_or_of : ℕ → ℕ → Flags → ℕ × Flags
exclusive_or_of a b f = test_of 8 (bit_xor a b) f
