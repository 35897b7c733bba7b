-- Interrupts: the frame on the stack, and the vector.
use Rattle.std.specs.Prelude.{ℕ, true}
use Rattle.alu.specs.Addresses.{before}
use Rattle.alu.specs.Flags.{ccr_byte, with_i}
use Rattle.state.specs.declared.registers.Registers.{Registers}
use Rattle.state.specs.Registers.{with_sp, with_pc, with_flags}
use Rattle.access.specs.Access.{Access, done, store, ◌>>=◌}
use Rattle.access.specs.Words.{fetch_word, pushed_word}

-- X, A and CCR on the stack
abbrev pub pushed_operands : ℕ → Registers → Access Unit
pushed_operands sp r =
    store sp r.x (store (before sp 1) r.a (store (before sp 2) (ccr_byte r.flags) (done tt)))

-- the frame of an interrupt: PC low, PC high, X, A, CCR
abbrev pub pushed_frame : Registers → Access Unit
pushed_frame r = pushed_word r.sp r.pc >>= (λ _. pushed_operands (before r.sp 2) r)

-- the registers within the interrupt: I set, the frame on the stack, the program counter from the vector
abbrev pub within : Registers → ℕ → Registers
within r pc = with_flags (with_i true r.flags) (with_sp (before r.sp 5) (with_pc pc r))

-- the vector is read, and the program goes on there
abbrev pub vectored : ℕ → Registers → Access Registers
vectored vector r = fetch_word vector >>= (λ pc. done (within r pc))

-- the frame is pushed before the vector is read
abbrev pub interrupted : ℕ → Registers → Access Registers
interrupted vector r = pushed_frame r >>= (λ _. vectored vector r)

-- SWI has its vector at $FFFC
abbrev pub swi : Registers → Access Registers
swi r = interrupted 0xFFFC r
