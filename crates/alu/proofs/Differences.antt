-- The difference of two numbers of w bits, less a borrow: what its value and its flags promise, and V as the code finds it.
use Rattle.std.proofs.Common.{◌≡◌, ℕ, zero, suc, ◌+◌, ◌-◌, ◌*◌, ◌/◌, ◌%◌, ◌^◌, ◌<◌, ◌≤◌, Bool, true, false, not, ◌&&◌, cond, eqb, ltb, leb, ◌⊎◌, inl, inr, refl, ap, ◌∙◌, subst, pow-suc, arith, ℤ, pos, ◌-ℤ◌, neg_ℤ}
use lib.Signed.{lt_z, le_z}
use mir.Val.{bool_byte}
use Rattle.std.specs.Bool.{beq}
use Rattle.std.proofs.Math.Nat.{mod-eq_of_lt, div-eq_of_lt, mul-add-mod_self_left, add-div_left}
use Rattle.std.proofs.lemmas.Bool.{cases_lt}
use Rattle.std.proofs.lemmas.Bool.Decides.{nat_tests}
use Rattle.std.proofs.lemmas.Int.{ints}
use Rattle.std.proofs.lemmas.Nat.{mod_below, one_shl, pow_pos}
use Rattle.alu.specs.declared.flags.Flags.{Flags}
use Rattle.alu.specs.Flags.{bit, unlike}
use Rattle.alu.specs.Sums.{difference, difference_of, difference_overflows, Compared}
use Rattle.alu.proofs.Codes.{bit_small, flag_byte}

-- whether an integer is from -half up to half
abbrev fits : ℕ → ℤ → Bool
fits half z = le_z (neg_ℤ (pos half)) z && lt_z z (pos half)

-- n with its rest p at the half, and its signed value s
abbrev Cut : ℕ → ℕ → ℕ → ℤ → Type 0
Cut half n p s = ((n < half) × (p ≡ n) × (s ≡ pos n)) ⊎ ((half ≤ n) × (p + half ≡ n) × (s ≡ pos p -ℤ pos half))

-- r is what is left of a less s, with a borrow of m where s is above a
abbrev Less : ℕ → ℕ → ℕ → ℕ → Type 0
Less m a s r = ((a < s) × (r + s ≡ m + a)) ⊎ ((s ≤ a) × (r + s ≡ a))

module _ (half a b p q : ℕ) (s t : ℤ) (u : p < half) (v : q < half) where
  -- the borrows into the top bit and out of it differ where the signed difference does not fit
  borrows_unlike : (k : ℕ) → k ≤ 1 → Cut half a p s → Cut half b q t → unlike (ltb p (q + k)) (ltb a (b + k)) ≡ not (fits half (s -ℤ t -ℤ pos k))
  borrows_unlike k z (inl x) (inl y) = grind (arith, ints, nat_tests)
  borrows_unlike k z (inl x) (inr y) = grind (arith, ints, nat_tests)
  borrows_unlike k z (inr x) (inl y) = grind (arith, ints, nat_tests)
  borrows_unlike k z (inr x) (inr y) = grind (arith, ints, nat_tests)

  -- N and V differ where the signed value of a is below that of b
  unlike_below : (m r k : ℕ) → m ≡ 2 * half → k ≡ 0 → Cut half a p s → Cut half b q t → Less m a b r → unlike (leb half r) (not (fits half (s -ℤ t -ℤ pos k))) ≡ lt_z s t
  unlike_below m r k e z (inl x) (inl y) (inl w) = grind (arith, ints, nat_tests)
  unlike_below m r k e z (inl x) (inl y) (inr w) = grind (arith, ints, nat_tests)
  unlike_below m r k e z (inl x) (inr y) (inl w) = grind (arith, ints, nat_tests)
  unlike_below m r k e z (inl x) (inr y) (inr w) = grind (arith, ints, nat_tests)
  unlike_below m r k e z (inr x) (inl y) (inl w) = grind (arith, ints, nat_tests)
  unlike_below m r k e z (inr x) (inl y) (inr w) = grind (arith, ints, nat_tests)
  unlike_below m r k e z (inr x) (inr y) (inl w) = grind (arith, ints, nat_tests)
  unlike_below m r k e z (inr x) (inr y) (inr w) = grind (arith, ints, nat_tests)

-- a number from m up to twice m, less m
rest : (m n : ℕ) → m ≤ n → n < 2 * m → n % m ≡ n - m
rest m n g h =
    let parts : n ≡ m * 1 + (n - m) = omega arith in
    let below : n - m < m = omega arith in
    ap (λ (x : ℕ). x % m) parts ∙ mul-add-mod_self_left m 1 (n - m) ∙ mod-eq_of_lt below

quotient : (m n : ℕ) → 0 < m → m ≤ n → n < 2 * m → n / m ≡ 1
quotient m n some g h =
    let parts : n ≡ m + (n - m) = omega arith in
    let below : n - m < m = omega arith in
    ap (λ (x : ℕ). x / m) parts ∙ add-div_left (n - m) some ∙ ap (λ (x : ℕ). x + 1) (div-eq_of_lt below)

module _ (half m : ℕ) (some : 0 < half) (twice : m ≡ 2 * half) where
  -- the signed value of a number below m
  abbrev signed : ℕ → ℤ
  signed n = cond (ltb n half) (pos n) (pos n -ℤ pos m)

  cut : (n : ℕ) → n < m → (n < half) ⊎ (half ≤ n) → Cut half n (n % half) (signed n)
  cut n h (inl l) = inl (l, mod-eq_of_lt l, grind (arith, nat_tests))
  cut n h (inr g) = let cut_off = rest half n g (omega arith) in inr (g, omega arith, grind (arith, ints, nat_tests))

  -- the top bit of a number
  top_bit : (n : ℕ) → n < m → (n < half) ⊎ (half ≤ n) → eqb (n / half % 2) 1 ≡ leb half n
  top_bit n h (inl l) = let none = div-eq_of_lt l in grind (arith, nat_tests)
  top_bit n h (inr g) = let one = quotient half n some g (omega arith) in grind (arith, nat_tests)

  lessened : (a s : ℕ) → a < m → s ≤ m → (a < s) ⊎ (s ≤ a) → Less m a s ((m + a - s) % m)
  lessened a s x y (inl l) = let below : m + a - s < m = omega arith in inl (l, rw (mod-eq_of_lt below) (omega arith))
  lessened a s x y (inr g) = inr (g, rw (rest m (m + a - s) (omega arith) (omega arith)) (omega arith))

-- twice a power of two is the next one
pub double : (w : ℕ) → 0 < w → 2 ^ w ≡ 2 * 2 ^ (w - 1)
double zero h = omega arith
double (suc v) h = let e : suc v - 1 ≡ v = omega arith in omega (arith, pow-suc 2 v, ap (λ (n : ℕ). 2 ^ n) e)

-- a flag that is not like another
not_same : (p q : Bool) → not (beq p q) ≡ unlike p q
not_same true true = refl
not_same true false = refl
not_same false true = refl
not_same false false = refl

module _ (w a b : ℕ) (borrow : Bool) (wide : 0 < w) (x : a < 2 ^ w) (y : b < 2 ^ w) where
  abbrev half : ℕ
  half = 2 ^ (w - 1)

  abbrev carry : Bool
  carry = ltb a (b + bit borrow)

  some : 0 < half
  some = pow_pos (w - 1)

  cut_at : (n : ℕ) → n < 2 ^ w → Cut half n (n % half) (signed half (2 ^ w) some (double w wide) n)
  cut_at n h = cut half (2 ^ w) some (double w wide) n h (cases_lt n half)

  overflow : not (beq (ltb (a % half) (b % half + bit borrow)) carry) ≡ difference_overflows w a b borrow
  overflow =
      not_same (ltb (a % half) (b % half + bit borrow)) carry
      ∙ borrows_unlike half a b (a % half) (b % half) _ _ (mod_below a half some) (mod_below b half some) (bit borrow) (bit_small borrow) (cut_at a x) (cut_at b y)

  less : Less (2 ^ w) a (b + bit borrow) (difference w a b borrow)
  less = let small = bit_small borrow in lessened half (2 ^ w) some (double w wide) a (b + bit borrow) x (omega arith) (cases_lt a (b + bit borrow))

  carried : Less (2 ^ w) a (b + bit borrow) (difference w a b borrow) → 2 ^ w * bit carry + a ≡ difference w a b borrow + b + bit borrow
  carried (inl p) = let c : carry ≡ true = grind (arith, nat_tests) in rw c (omega arith)
  carried (inr p) = let c : carry ≡ false = grind (arith, nat_tests) in rw c (omega arith)

  zero_at_equal : (r : ℕ) → Less (2 ^ w) a b r → eqb r 0 ≡ eqb a b
  zero_at_equal r (inl p) = grind (arith, nat_tests)
  zero_at_equal r (inr p) = grind (arith, nat_tests)

  module _ (f after : Flags) (result : ℕ) (e : (result, after) ≡ difference_of w a b borrow f) where
    flagged : after ≡ (difference_of w a b borrow f).1
    flagged = ap (λ (p : ℕ × Flags). p.1) e

    pub whole : 2 ^ w * bit after.c + a ≡ result + b + bit borrow
    whole = rw (flagged, ap (λ (p : ℕ × Flags). p.0) e) (carried less)

    pub compared : borrow ≡ false → Compared w a b after
    compared none =
        let no_borrow : bit borrow ≡ 0 = ap bit none in
        let as_one : b + bit borrow ≡ b = omega arith in
        let apart : Less (2 ^ w) a b (difference w a b borrow) = subst (λ (s : ℕ). Less (2 ^ w) a s (difference w a b borrow)) as_one less in
        let small = mod_below (2 ^ w + a - (b + bit borrow)) (2 ^ w) (pow_pos w) in
        let top = top_bit half (2 ^ w) some (double w wide) (difference w a b borrow) small (cases_lt (difference w a b borrow) half) in
        rw flagged
        (record {
          below = ap (ltb a) as_one;
          equal = zero_at_equal (difference w a b borrow) apart;
          signed_below =
              ap (λ (n : Bool). unlike n (difference_of w a b borrow f).1.v) top
              ∙ unlike_below half a b (a % half) (b % half) _ _ (mod_below a half some) (mod_below b half some) (2 ^ w) (difference w a b borrow) (bit borrow) (double w wide) no_borrow (cut_at a x) (cut_at b y) apart;
        })

-- a power of two, as the code shifts it
pub one_shifted : (w k : ℕ) → k ≡ w → w ≤ 32 → 1 * 2 ^ k % 18446744073709551616 ≡ 2 ^ w
one_shifted w k e narrow = one_shl k 64 (omega arith) ∙ ap (λ (n : ℕ). 2 ^ n) e

-- V as the code finds it, with the half as it shifts that
pub borrows_differ :
    (w bits a b less : ℕ) (borrow : Bool)
    → bits ≡ w
    → less ≡ bool_byte borrow
    → 0 < w
    → w ≤ 32
    → a < 2 ^ w
    → b < 2 ^ w
    → not (beq (ltb (a % (1 * 2 ^ (bits - 1) % 18446744073709551616)) (b % (1 * 2 ^ (bits - 1) % 18446744073709551616) + less)) (ltb a (b + less))) ≡ difference_overflows w a b borrow
borrows_differ w bits a b less borrow width taken has narrow x y =
    let one = one_shl (w - 1) 64 (omega arith) in
    rw (width, taken ∙ flag_byte borrow, one) (overflow w a b borrow has x y)
