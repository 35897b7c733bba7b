-- A register combined with an operand byte.
use Rattle.std.specs.Prelude.{ℕ, false}
use Rattle.alu.specs.Sums.{sum_of, difference_of}
use Rattle.alu.specs.Logic.{test_of, and_of, or_of, exclusive_or_of}
use Rattle.isa.specs.declared.operation.RegisterMemory.{RegisterMemory}
use Rattle.isa.specs.declared.operation.RegisterMemory.TheVariants.{Sub, Cmp, Sbc, Cpx, And, Bit, Lda, Eor, Adc, Ora, Add, Ldx}
use Rattle.state.specs.declared.registers.Registers.{Registers}
use Rattle.state.specs.Registers.{with_a, with_x, with_flags}

-- what each operation leaves: CMP, CPX and BIT keep the registers and give the flags alone
abbrev pub combined : RegisterMemory → ℕ → Registers → Registers
combined Sub b r = with_a (difference_of 8 r.a b false r.flags) r
combined Cmp b r = with_flags (difference_of 8 r.a b false r.flags).1 r
combined Sbc b r = with_a (difference_of 8 r.a b r.flags.c r.flags) r
combined Cpx b r = with_flags (difference_of 8 r.x b false r.flags).1 r
combined And b r = with_a (and_of r.a b r.flags) r
combined Bit b r = with_flags (and_of r.a b r.flags).1 r
combined Lda b r = with_a (test_of 8 b r.flags) r
combined Eor b r = with_a (exclusive_or_of r.a b r.flags) r
combined Adc b r = with_a (sum_of r.a b r.flags.c r.flags) r
combined Ora b r = with_a (or_of r.a b r.flags) r
combined Add b r = with_a (sum_of r.a b false r.flags) r
combined Ldx b r = with_x (test_of 8 b r.flags) r
