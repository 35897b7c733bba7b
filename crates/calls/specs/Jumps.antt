-- JMP, JSR and BSR.
use Rattle.std.specs.Prelude.{ℕ}
use Rattle.alu.specs.Addresses.{before}
use Rattle.isa.specs.declared.operation.Jump.{Jump}
use Rattle.isa.specs.declared.operation.Jump.TheVariants.{Jmp, Jsr, Bsr}
use Rattle.state.specs.declared.registers.Registers.{Registers}
use Rattle.state.specs.Registers.{with_sp, with_pc}
use Rattle.access.specs.Access.{Access, done, ◌>>=◌}
use Rattle.access.specs.Words.{pushed_word}

-- the address of the next instruction is pushed, and the program goes to the target
abbrev pub called : ℕ → Registers → Access Registers
called target r = pushed_word r.sp r.pc >>= (λ _. done (with_pc target (with_sp (before r.sp 2) r)))

-- JMP goes to the target, JSR and BSR call it
abbrev pub jumped : Jump → ℕ → Registers → Access Registers
jumped Jmp target r = done (with_pc target r)
jumped Jsr target r = called target r
jumped Bsr target r = called target r
