-- Words in memory and on the stack.
use Rattle.std.specs.Prelude.{ℕ}
use Rattle.alu.specs.Addresses.{after, before}
use Rattle.alu.specs.Words.{word_of, high_byte, low_byte}
use Rattle.access.specs.Access.{Access, done, read, store}

-- a word, its high byte first
abbrev pub fetch_word : ℕ → Access ℕ
fetch_word a = read a (λ high. read (after a 1) (λ low. done (word_of high low)))

-- a word stored, its high byte first
abbrev pub store_word : ℕ → ℕ → Access Unit
store_word a word = store a (high_byte word) (store (after a 1) (low_byte word) (done tt))

-- a word on the stack, its low byte first, each byte one place further down
abbrev pub pushed_word : ℕ → ℕ → Access Unit
pushed_word sp word = store sp (low_byte word) (store (before sp 1) (high_byte word) (done tt))
