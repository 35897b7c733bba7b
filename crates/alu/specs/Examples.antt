-- Examples of arithmetic, worked out.
use Rattle.std.specs.Prelude.{◌≡◌, true, false}
use Rattle.alu.specs.declared.flags.Flags.{Flags}
use Rattle.alu.specs.Flags.{with_h}
use Rattle.alu.specs.Sums.{sum_of, difference_of}
use Rattle.alu.specs.Decimal.{decimal_adjust_of}
use Rattle.alu.specs.Products.{multiply_of, divide_of}

-- no flag
abbrev pub no_flags : Flags
no_flags = record { v = false; h = false; i = false; n = false; z = false; c = false }

-- what six operations leave, where no flag was set before but the H of the first adjustment
abbrev pub ArithmeticExamples : Type 0
ArithmeticExamples =
    (sum_of 0x7f 0x01 false no_flags ≡ (0x80, record { v = true; h = true; i = false; n = true; z = false; c = false }))
    × (difference_of 8 0x80 0x01 false no_flags ≡ (0x7f, record { v = true; h = false; i = false; n = false; z = false; c = false }))
    × (decimal_adjust_of 0x11 (with_h true no_flags) ≡ (0x17, with_h true no_flags))
    × (decimal_adjust_of 0x9a no_flags ≡ (0x00, record { v = false; h = false; i = false; n = false; z = true; c = true }))
    × (multiply_of 0xff 0xff no_flags ≡ ((0xfe, 0x01), no_flags))
    × (divide_of 0x01 0x05 0x02 no_flags ≡ ((0x82, 0x01), no_flags))
