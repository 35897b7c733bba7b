-- The order that each branch is named for, by the flags of a comparison.
use Rattle.std.proofs.Common.{◌≡◌, ℕ, ◌-◌, ◌*◌, ◌^◌, ◌<◌, ◌≤◌, cond, not, ◌||◌, eqb, ltb, leb, ℤ, pos, negsuc, ◌-ℤ◌, refl, ap, ◌∙◌, arith}
use lib.Signed.{lt_z, le_z}
use Rattle.std.proofs.lemmas.Int.{ints}
use Rattle.std.proofs.lemmas.Bool.Decides.{nat_tests}
use Rattle.alu.specs.declared.flags.Flags.{Flags}
use Rattle.alu.specs.Flags.{unlike}
use Rattle.alu.specs.Sums.{Compared, signed_value}
use Rattle.alu.proofs.Differences.{double}
use Rattle.isa.specs.declared.operation.Condition.{Condition}
use Rattle.isa.specs.declared.operation.Condition.TheVariants.{Bra, Brn, Bhi, Bls, Bcc, Bcs, Bne, Beq, Bhcc, Bhcs, Bpl, Bmi, Bmc, Bms, Bil, Bih, Bge, Blt, Bgt, Ble}
use Rattle.effects.specs.Branch.{taken}
use Rattle.effects.specs.Order.{NamedOrder}

-- above, not above, and not below, by below and equal
above : (a b : ℕ) → not (ltb a b || eqb a b) ≡ ltb b a
above a b = grind (arith, nat_tests)

not_above : (a b : ℕ) → (ltb a b || eqb a b) ≡ leb a b
not_above a b = grind (arith, nat_tests)

not_below : (a b : ℕ) → not (ltb a b) ≡ leb b a
not_below a b = grind (arith, nat_tests)

-- the signed value of a number below 2 * p
abbrev signed : ℕ → ℕ → ℤ
signed p n = cond (ltb n p) (pos n) (pos n -ℤ pos (2 * p))

not_below_z : (x y : ℤ) → not (lt_z x y) ≡ le_z y x
not_below_z (pos a) (pos b) = not_below a b
not_below_z (pos a) (negsuc b) = refl
not_below_z (negsuc a) (pos b) = refl
not_below_z (negsuc a) (negsuc b) = not_below b a

module _ (p a b : ℕ) (h : a < 2 * p) (k : b < 2 * p) where
  above_z : not (eqb a b || lt_z (signed p a) (signed p b)) ≡ lt_z (signed p b) (signed p a)
  above_z = grind (arith, ints, nat_tests)

  not_above_z : (eqb a b || lt_z (signed p a) (signed p b)) ≡ le_z (signed p a) (signed p b)
  not_above_z = grind (arith, ints, nat_tests)

module _ (w a b : ℕ) (wide : 1 ≤ w) (f : Flags) (compared : Compared w a b f) where
  value : (n : ℕ) → signed_value w n ≡ signed (2 ^ (w - 1)) n
  value n = ap (λ (q : ℕ). cond (ltb n (2 ^ (w - 1))) (pos n) (pos n -ℤ pos q)) (double w wide)

  -- the flags that the branches look at
  c_or_z : (f.c || f.z) ≡ (ltb a b || eqb a b)
  c_or_z = cc (compared.below, compared.equal)

  z_or_below : (f.z || unlike f.n f.v) ≡ (eqb a b || lt_z (signed (2 ^ (w - 1)) a) (signed (2 ^ (w - 1)) b))
  z_or_below = cc (compared.equal, compared.signed_below, value a, value b)

  module _ (h : a < 2 ^ w) (k : b < 2 ^ w) where
    fits : (n : ℕ) → n < 2 ^ w → n < 2 * 2 ^ (w - 1)
    fits n l = omega (arith, double w wide)

    -- a branch is taken where the numbers stand in the order that it is named for
    pub ordered : (condition : Condition) (lines : ℕ) → NamedOrder condition w a b (taken condition f lines)
    ordered Bra lines = tt
    ordered Brn lines = tt
    ordered Bhi lines = ap not c_or_z ∙ above a b
    ordered Bls lines = c_or_z ∙ not_above a b
    ordered Bcc lines = ap not compared.below ∙ not_below a b
    ordered Bcs lines = compared.below
    ordered Bne lines = ap not compared.equal
    ordered Beq lines = compared.equal
    ordered Bhcc lines = tt
    ordered Bhcs lines = tt
    ordered Bpl lines = tt
    ordered Bmi lines = tt
    ordered Bmc lines = tt
    ordered Bms lines = tt
    ordered Bil lines = tt
    ordered Bih lines = tt
    ordered Bge lines = ap not compared.signed_below ∙ not_below_z (signed_value w a) (signed_value w b)
    ordered Blt lines = compared.signed_below
    ordered Bgt lines =
        ap not z_or_below ∙ above_z (2 ^ (w - 1)) a b (fits a h) (fits b k) ∙ cc (value a, value b)
    ordered Ble lines = z_or_below ∙ not_above_z (2 ^ (w - 1)) a b (fits a h) (fits b k) ∙ cc (value a, value b)
