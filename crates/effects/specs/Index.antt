-- LDHX, CPHX and STHX on H:X.
use Rattle.std.specs.Prelude.{ℕ, false}
use Rattle.alu.specs.Logic.{test_of}
use Rattle.alu.specs.Sums.{difference_of}
use Rattle.state.specs.declared.registers.Registers.{Registers}
use Rattle.state.specs.Registers.{hx, with_hx, with_flags}

-- H:X becomes a word, which is tested
abbrev pub index_loaded : ℕ → Registers → Registers
index_loaded w r = with_flags (test_of 16 w r.flags).1 (with_hx w r)

-- the flags of H:X less a word
abbrev pub index_compared : ℕ → Registers → Registers
index_compared w r = with_flags (difference_of 16 (hx r) w false r.flags).1 r

-- H:X is tested
abbrev pub index_tested : Registers → Registers
index_tested r = with_flags (test_of 16 (hx r) r.flags).1 r
