-- A sequence of trees is carried out one after the other.
use Rattle.std.proofs.Common.{◌≡◌, ℕ, Ok, Err, Result, refl}
use Rattle.bus.specs.Cell.{Cell, Cells, open_cell, guarded_cell, missing_cell, stored}
use Rattle.access.specs.declared.fault.Fault.{Fault}
use Rattle.access.specs.declared.fault.Fault.TheVariants.{MissingCell}
use Rattle.access.specs.Access.{Access, done, fail, read, store, ◌>>=◌, on_cell, perform}

-- what follows a tree's result: a fault ends it
abbrev pub and_then : {X Y : Type 0} → Result X Fault × Cells → (X → Access Y) → Result Y Fault × Cells
and_then (Ok x, m) f = perform (f x) m
and_then (Err e, m) f = (Err e, m)

module _ {X Y : Type 0} (f : X → Access Y) where
  -- one access, and then a tree of which the law holds
  accessed : (cell : Cell) (m : Cells) (go : ℕ → Result Y Fault × Cells) (go' : ℕ → Result X Fault × Cells) →
      ((b : ℕ) → go b ≡ and_then (go' b) f) →
      on_cell cell go (Err MissingCell, m) ≡ and_then (on_cell cell go' (Err MissingCell, m)) f
  accessed (open_cell b) m go go' law = law b
  accessed (guarded_cell b) m go go' law = law b
  accessed missing_cell m go go' law = refl

  pub sequenced : (t : Access X) (m : Cells) → perform (t >>= f) m ≡ and_then (perform t m) f
  sequenced (done x) m = refl
  sequenced fail m = refl
  sequenced (read a k) m = accessed (m a) m _ _ (λ b. sequenced (k b) m)
  sequenced (store a b t) m = accessed (m a) m _ _ (λ _. sequenced t (stored m a b))
