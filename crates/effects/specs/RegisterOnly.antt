-- The instructions that touch registers and flags alone.
use Rattle.std.specs.Prelude.{ℕ, true, false}
use Rattle.alu.specs.Flags.{ccr_byte, ccr_flags, with_c, with_i}
use Rattle.alu.specs.Decimal.{decimal_adjust_of}
use Rattle.alu.specs.Logic.{test_of}
use Rattle.alu.specs.Products.{multiply_of, divide_of}
use Rattle.alu.specs.Unary.{swapped}
use Rattle.alu.specs.Words.{word_of, high_byte}
use Rattle.isa.specs.declared.operation.RegisterOnly.{RegisterOnly}
use Rattle.isa.specs.declared.operation.RegisterOnly.TheVariants.{Mul, Div, Nsa, Daa, Tap, Tpa, Clrh, Txs, Tsx, Tax, Txa, Clc, Sec, Cli, Sei, Rsp, Nop}
use Rattle.state.specs.declared.registers.Registers.{Registers}
use Rattle.state.specs.Registers.{with_a, with_x, with_h, with_hx, with_sp, with_flags}
use Rattle.alu.specs.Addresses.{after, before}

-- X:A is the product of X and A
abbrev pub multiplied : Registers → Registers
multiplied r =
    let p = multiply_of r.x r.a r.flags in
    record { a = p.0.1; h = r.h; x = p.0.0; sp = r.sp; pc = r.pc; flags = p.1 }

-- H:A divided by X: the quotient in A, the remainder in H
abbrev pub divided : Registers → Registers
divided r =
    let p = divide_of r.h r.a r.x r.flags in
    record { a = p.0.0; h = p.0.1; x = r.x; sp = r.sp; pc = r.pc; flags = p.1 }

-- the stack pointer's low byte set to $FF
abbrev pub stack_reset : ℕ → ℕ
stack_reset sp = word_of (high_byte sp) 0xFF

-- what each operation leaves: TXS and TSX go by the next empty place of the stack
abbrev pub registered : RegisterOnly → Registers → Registers
registered Mul r = multiplied r
registered Div r = divided r
registered Nsa r = with_a (swapped r.a, r.flags) r
registered Daa r = with_a (decimal_adjust_of r.a r.flags) r
registered Tap r = with_flags (ccr_flags r.a) r
registered Tpa r = with_a (ccr_byte r.flags, r.flags) r
registered Clrh r = with_h (test_of 8 0 r.flags) r
registered Txs r = with_sp (before (word_of r.h r.x) 1) r
registered Tsx r = with_hx (after r.sp 1) r
registered Tax r = with_x (r.a, r.flags) r
registered Txa r = with_a (r.x, r.flags) r
registered Clc r = with_flags (with_c false r.flags) r
registered Sec r = with_flags (with_c true r.flags) r
registered Cli r = with_flags (with_i false r.flags) r
registered Sei r = with_flags (with_i true r.flags) r
registered Rsp r = with_sp (stack_reset r.sp) r
registered Nop r = r
