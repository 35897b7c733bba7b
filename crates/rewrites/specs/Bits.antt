-- BSET and BCLR.
use Rattle.std.specs.Prelude.{ℕ}
use Rattle.isa.specs.declared.operation.BitChange.{BitChange}
use Rattle.access.specs.Access.{Access, done, read, store}
use Rattle.effects.specs.Bits.{bit_changed}

-- the byte is read, and put back with the bit changed
abbrev pub memory_bit_changed : BitChange → ℕ → Access Unit
memory_bit_changed change address = read address (λ b. store address (bit_changed change b) (done tt))
