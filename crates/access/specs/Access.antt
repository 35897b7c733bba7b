-- What an instruction does, as its accesses to memory in their order.
use Rattle.std.specs.Prelude.{ℕ, Ok, Err, Result}
use Rattle.bus.specs.Cell.{Cell, Cells, open_cell, guarded_cell, missing_cell, stored}
use Rattle.access.specs.declared.fault.Fault.{Fault}
use Rattle.access.specs.declared.fault.Fault.TheVariants.{MissingCell, NoInstruction}

-- an access tree: a result, no instruction, a read that goes on with the byte, or a store and what follows it
pub data Access (X : Type 0) : Type 0 where
  done : X → Access X
  fail : Access X
  read : ℕ → (ℕ → Access X) → Access X
  store : ℕ → ℕ → Access X → Access X

infixl 4 ◌>>=◌
-- one tree, and then another that takes its result
abbrev pub ◌>>=◌ : {X Y : Type 0} → Access X → (X → Access Y) → Access Y
done x >>= f = f x
fail >>= f = fail
read a k >>= f = read a (λ b. k b >>= f)
store a b t >>= f = store a b (t >>= f)

-- going on with the byte that a cell shows, or with what holds of a missing one
abbrev pub on_cell : {R : Type 0} → Cell → (ℕ → R) → R → R
on_cell (open_cell b) go lost = go b
on_cell (guarded_cell b) go lost = go b
on_cell missing_cell go lost = lost

-- a tree carried out on a memory: a missing cell ends it, with the stores made so far; a guarded cell drops what is stored to it
abbrev pub perform : {X : Type 0} → Access X → Cells → Result X Fault × Cells
perform (done x) m = (Ok x, m)
perform fail m = (Err NoInstruction, m)
perform (read a k) m = on_cell (m a) (λ b. perform (k b) m) (Err MissingCell, m)
perform (store a b t) m = on_cell (m a) (λ _. perform t (stored m a b)) (Err MissingCell, m)

-- an answer that takes no access
abbrev pub answered : {X : Type 0} → Result X Fault → Access X
answered (Ok x) = done x
answered (Err e) = fail
