-- The registers, read and replaced.
use Rattle.std.specs.Prelude.{ℕ}
use Rattle.alu.specs.declared.flags.Flags.{Flags}
use Rattle.alu.specs.Logic.{test_of}
use Rattle.alu.specs.Words.{word_of, high_byte, low_byte}
use Rattle.state.specs.declared.registers.Registers.{Registers}

-- H:X as a word
abbrev pub hx : Registers → ℕ
hx r = word_of r.h r.x

-- A and the flags as an operation left them
abbrev pub with_a : ℕ × Flags → Registers → Registers
with_a p r = record { a = p.0; h = r.h; x = r.x; sp = r.sp; pc = r.pc; flags = p.1 }

-- X and the flags as an operation left them
abbrev pub with_x : ℕ × Flags → Registers → Registers
with_x p r = record { a = r.a; h = r.h; x = p.0; sp = r.sp; pc = r.pc; flags = p.1 }

-- H and the flags as an operation left them
abbrev pub with_h : ℕ × Flags → Registers → Registers
with_h p r = record { a = r.a; h = p.0; x = r.x; sp = r.sp; pc = r.pc; flags = p.1 }

-- H:X
abbrev pub with_hx : ℕ → Registers → Registers
with_hx w r = record { a = r.a; h = high_byte w; x = low_byte w; sp = r.sp; pc = r.pc; flags = r.flags }

-- the stack pointer
abbrev pub with_sp : ℕ → Registers → Registers
with_sp w r = record { a = r.a; h = r.h; x = r.x; sp = w; pc = r.pc; flags = r.flags }

-- the program counter
abbrev pub with_pc : ℕ → Registers → Registers
with_pc w r = record { a = r.a; h = r.h; x = r.x; sp = r.sp; pc = w; flags = r.flags }

-- the flags
abbrev pub with_flags : Flags → Registers → Registers
with_flags f r = record { a = r.a; h = r.h; x = r.x; sp = r.sp; pc = r.pc; flags = f }

-- the flags of a number of w bits that is tested
abbrev pub tested : ℕ → ℕ → Registers → Registers
tested w number r = with_flags (test_of w number r.flags).1 r
