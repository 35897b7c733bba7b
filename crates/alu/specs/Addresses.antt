-- Addresses moved; they go round at 65,536.
use Rattle.std.specs.Prelude.{ℕ, ◌+◌, ◌-◌, ◌%◌, ℤ, pos, negsuc, ◌+ℤ◌}
use Rattle.alu.specs.Sums.{signed_value}

-- an integer modulo n
abbrev pub modulo : ℕ → ℤ → ℕ
modulo n (pos m) = m % n
modulo n (negsuc m) = n - 1 - m % n

-- the address plus the signed value of the offset, modulo 65,536
abbrev pub displaced_by : ℕ → ℕ → ℕ
displaced_by address offset = modulo 65536 (pos address +ℤ signed_value 8 offset)

-- the address n places further on
abbrev pub after : ℕ → ℕ → ℕ
after address n = (address + n) % 65536

-- the address n places further back
abbrev pub before : ℕ → ℕ → ℕ
before address n = (address + (65536 - n)) % 65536
