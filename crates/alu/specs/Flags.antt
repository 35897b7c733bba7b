-- The condition code register: its six flags, and its byte.
use Rattle.std.specs.Prelude.{ℕ, ◌+◌, ◌-◌, ◌*◌, ◌/◌, ◌%◌, ◌^◌, Bool, true, false, cond, not, ◌==◌}
use Rattle.alu.specs.declared.flags.Flags.{Flags}

-- a flag as a number
abbrev pub bit : Bool → ℕ
bit true = 1
bit false = 0

-- whether bit k of a number is set
abbrev pub bit_at : ℕ → ℕ → Bool
bit_at k n = n / 2 ^ k % 2 == 1

-- whether one of two flags is set, and the other is not
abbrev pub unlike : Bool → Bool → Bool
unlike p q = cond p (not q) q

-- the condition code byte: the flags in their bits, and bits 6 and 5 set
abbrev pub ccr_byte : Flags → ℕ
ccr_byte f =
    128 * bit f.v + 64 + 32 + 16 * bit f.h + 8 * bit f.i + 4 * bit f.n + 2 * bit f.z + bit f.c

-- the flags in a condition code byte
abbrev pub ccr_flags : ℕ → Flags
ccr_flags b = record { v = bit_at 7 b; h = bit_at 4 b; i = bit_at 3 b; n = bit_at 2 b; z = bit_at 1 b; c = bit_at 0 b }

-- a byte with bits 6 and 5 set
abbrev pub fixed_set : ℕ → ℕ
fixed_set b = b / 128 * 128 + 64 + 32 + b % 32

-- the flags with V as given
abbrev pub with_v : Bool → Flags → Flags
with_v v f = record { v = v; h = f.h; i = f.i; n = f.n; z = f.z; c = f.c }

-- the flags with H as given
abbrev pub with_h : Bool → Flags → Flags
with_h h f = record { v = f.v; h = h; i = f.i; n = f.n; z = f.z; c = f.c }

-- the flags with I as given
abbrev pub with_i : Bool → Flags → Flags
with_i i f = record { v = f.v; h = f.h; i = i; n = f.n; z = f.z; c = f.c }

-- the flags with C as given
abbrev pub with_c : Bool → Flags → Flags
with_c c f = record { v = f.v; h = f.h; i = f.i; n = f.n; z = f.z; c = c }

-- the flags with Z as given
abbrev pub with_z : Bool → Flags → Flags
with_z z f = record { v = f.v; h = f.h; i = f.i; n = f.n; z = z; c = f.c }

-- the flags with N and Z of a number of w bits: its top bit, and whether it is 0
abbrev pub with_nz : ℕ → ℕ → Flags → Flags
with_nz w number f =
    record { v = f.v; h = f.h; i = f.i; n = bit_at (w - 1) number; z = (number == 0); c = f.c }
