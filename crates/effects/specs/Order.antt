-- What a branch says of two numbers that were compared.
use Rattle.std.specs.Prelude.{◌≡◌, ℕ, Bool, not, ◌==◌, int_le, int_lt, nat_le, nat_lt}
use Rattle.alu.specs.declared.flags.Flags.{Flags}
use Rattle.alu.specs.Sums.{Compared, signed_value}
use Rattle.isa.specs.declared.operation.RegisterMemory.{RegisterMemory}
use Rattle.isa.specs.declared.operation.RegisterMemory.TheVariants.{Sub, Cmp, Sbc, Cpx, And, Bit, Lda, Eor, Adc, Ora, Add, Ldx}
use Rattle.isa.specs.declared.operation.Condition.{Condition}
use Rattle.isa.specs.declared.operation.Condition.TheVariants.{Bra, Brn, Bhi, Bls, Bcc, Bcs, Bne, Beq, Bhcc, Bhcs, Bpl, Bmi, Bmc, Bms, Bil, Bih, Bge, Blt, Bgt, Ble}
use Rattle.state.specs.declared.registers.Registers.{Registers}

-- the order that a branch is named for, of the numbers a and b of w bits: BHI is taken where a is above b, BGT where the
-- signed value of a is above that of b, and so on; the other branches are named for none
abbrev pub NamedOrder : Condition → ℕ → ℕ → ℕ → Bool → Type 0
NamedOrder Bra w a b taken = Unit {0}
NamedOrder Brn w a b taken = Unit {0}
NamedOrder Bhi w a b taken = taken ≡ nat_lt b a
NamedOrder Bls w a b taken = taken ≡ nat_le a b
NamedOrder Bcc w a b taken = taken ≡ nat_le b a
NamedOrder Bcs w a b taken = taken ≡ nat_lt a b
NamedOrder Bne w a b taken = taken ≡ not (a == b)
NamedOrder Beq w a b taken = taken ≡ (a == b)
NamedOrder Bhcc w a b taken = Unit {0}
NamedOrder Bhcs w a b taken = Unit {0}
NamedOrder Bpl w a b taken = Unit {0}
NamedOrder Bmi w a b taken = Unit {0}
NamedOrder Bmc w a b taken = Unit {0}
NamedOrder Bms w a b taken = Unit {0}
NamedOrder Bil w a b taken = Unit {0}
NamedOrder Bih w a b taken = Unit {0}
NamedOrder Bge w a b taken = taken ≡ int_le (signed_value w b) (signed_value w a)
NamedOrder Blt w a b taken = taken ≡ int_lt (signed_value w a) (signed_value w b)
NamedOrder Bgt w a b taken = taken ≡ int_lt (signed_value w b) (signed_value w a)
NamedOrder Ble w a b taken = taken ≡ int_le (signed_value w a) (signed_value w b)

-- CMP leaves the flags of a comparison of A with the byte, CPX of X; the other operations are no comparisons
abbrev pub ComparesByte : RegisterMemory → ℕ → Registers → Flags → Type 0
ComparesByte Sub b r f = Unit {0}
ComparesByte Cmp b r f = Compared 8 r.a b f
ComparesByte Sbc b r f = Unit {0}
ComparesByte Cpx b r f = Compared 8 r.x b f
ComparesByte And b r f = Unit {0}
ComparesByte Bit b r f = Unit {0}
ComparesByte Lda b r f = Unit {0}
ComparesByte Eor b r f = Unit {0}
ComparesByte Adc b r f = Unit {0}
ComparesByte Ora b r f = Unit {0}
ComparesByte Add b r f = Unit {0}
ComparesByte Ldx b r f = Unit {0}
