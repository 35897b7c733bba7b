-- LDHX, CPHX and STHX.
use Rattle.std.specs.Prelude.{ℕ}
use Rattle.isa.specs.declared.operation.WordOperation.{WordOperation}
use Rattle.isa.specs.declared.operation.WordOperation.TheVariants.{Ldhx, Cphx, Sthx}
use Rattle.state.specs.declared.registers.Registers.{Registers}
use Rattle.state.specs.Registers.{hx}
use Rattle.access.specs.Access.{Access, done, ◌>>=◌}
use Rattle.access.specs.Words.{fetch_word, store_word}
use Rattle.effects.specs.Index.{index_loaded, index_compared, index_tested}

-- H:X becomes the operand word, which is tested
abbrev pub word_loaded : ℕ → Registers → Access Registers
word_loaded address r = fetch_word address >>= (λ w. done (index_loaded w r))

-- the flags of H:X less the operand word
abbrev pub word_compared : ℕ → Registers → Access Registers
word_compared address r = fetch_word address >>= (λ w. done (index_compared w r))

-- H:X is stored, H first, and tested
abbrev pub word_stored : ℕ → Registers → Access Registers
word_stored address r = store_word address (hx r) >>= (λ _. done (index_tested r))

-- each operation on H:X and a word
abbrev pub worded : WordOperation → ℕ → Registers → Access Registers
worded Ldhx address r = word_loaded address r
worded Cphx address r = word_compared address r
worded Sthx address r = word_stored address r
