-- RTS and RTI.
use Rattle.std.specs.Prelude.{ℕ}
use Rattle.alu.specs.Addresses.{after}
use Rattle.isa.specs.declared.operation.Return.{Return}
use Rattle.isa.specs.declared.operation.Return.TheVariants.{Rts, Rti}
use Rattle.state.specs.declared.registers.Registers.{Registers}
use Rattle.state.specs.Registers.{with_sp, with_pc}
use Rattle.access.specs.Access.{Access, done, read, ◌>>=◌}
use Rattle.access.specs.Words.{fetch_word}
use Rattle.effects.specs.declared.frame.Frame.{Frame}
use Rattle.effects.specs.Frame.{restored}

-- the program counter is pulled, its high byte first
abbrev pub from_subroutine : Registers → Access Registers
from_subroutine r = fetch_word (after r.sp 1) >>= (λ pc. done (with_pc pc (with_sp (after r.sp 2) r)))

-- the frame above a place of the stack: CCR, A, X and the program counter
abbrev pub frame_read : ℕ → Access Frame
frame_read sp =
    read (after sp 1) (λ codes.
    read (after sp 2) (λ a.
    read (after sp 3) (λ x. fetch_word (after sp 4) >>= (λ pc. done (record { codes = codes; a = a; x = x; pc = pc })))))

-- the frame is pulled
abbrev pub from_interrupt : Registers → Access Registers
from_interrupt r = frame_read r.sp >>= (λ frame. done (restored frame r))

-- the two ways back
abbrev pub returned : Return → Registers → Access Registers
returned Rts r = from_subroutine r
returned Rti r = from_interrupt r
