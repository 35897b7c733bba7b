-- STOP, WAIT and BGND.
use Rattle.std.specs.Prelude.{false}
use Rattle.alu.specs.Flags.{with_i}
use Rattle.isa.specs.declared.operation.Standstill.{Standstill}
use Rattle.isa.specs.declared.operation.Standstill.TheVariants.{Stop, Wait, Bgnd}
use Rattle.state.specs.declared.registers.Registers.{Registers}
use Rattle.state.specs.declared.standing.Standing.{Standing}
use Rattle.state.specs.declared.standing.Standing.TheVariants.{Waiting, Stopped, Halted}
use Rattle.state.specs.Registers.{with_flags}

-- STOP and WAIT clear I
abbrev pub rested : Standstill → Registers → Registers
rested Stop r = with_flags (with_i false r.flags) r
rested Wait r = with_flags (with_i false r.flags) r
rested Bgnd r = r

-- how the processor then stands
abbrev pub stands_at : Standstill → Standing
stands_at Stop = Stopped
stands_at Wait = Waiting
stands_at Bgnd = Halted
