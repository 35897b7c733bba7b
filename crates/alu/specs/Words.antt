-- A word of two bytes.
use Rattle.std.specs.Prelude.{ℕ, ◌+◌, ◌*◌, ◌/◌, ◌%◌}

-- the word of a high byte and a low byte
abbrev pub word_of : ℕ → ℕ → ℕ
word_of high low = 256 * high + low

-- the high byte of a word
abbrev pub high_byte : ℕ → ℕ
high_byte w = w / 256

-- the low byte of a word
abbrev pub low_byte : ℕ → ℕ
low_byte w = w % 256
