-- What RTI finds on the stack.
use Rattle.alu.specs.Addresses.{after}
use Rattle.alu.specs.Flags.{ccr_flags}
use Rattle.state.specs.declared.registers.Registers.{Registers}
use Rattle.effects.specs.declared.frame.Frame.{Frame}

-- the registers of the frame, which leaves the stack; H keeps
abbrev pub restored : Frame → Registers → Registers
restored frame r =
    record { a = frame.a; h = r.h; x = frame.x; sp = after r.sp 5; pc = frame.pc; flags = ccr_flags frame.codes }
