-- The adjusted sum of two bytes of decimal digits. In each lemma `low` is the sum of the low digits and the carry,
-- and `high` the sum of the high digits, so that the sum of the bytes is 16 * high + low.
use Rattle.std.proofs.Common.{◌≡◌, ℕ, ◌+◌, ◌-◌, ◌*◌, ◌/◌, ◌%◌, ◌<◌, ◌≤◌, Bool, ◌||◌, ltb, leb, ◌⊎◌, sym, ap, ◌∙◌, subst, inl, inr, arith}
use Rattle.std.proofs.lemmas.Bool.{cases_lt}
use Rattle.std.proofs.lemmas.Bool.Decides.{nat_tests}
use Rattle.alu.specs.declared.flags.Flags.{Flags}
use Rattle.alu.specs.Flags.{bit}
use Rattle.alu.specs.Decimal.{TwoDigits, decimal_value, low_adjusted, high_adjusted, adjusted, decimal_adjust_of, DecimalSum}
use Rattle.alu.proofs.Codes.{bit_small}

-- a number that is 1 or 0, as a number reaches a limit or not
abbrev Reaches : ℕ → ℕ → ℕ → Type 0
Reaches limit number b = ((b ≡ 1) × (limit ≤ number)) ⊎ ((b ≡ 0) × (number < limit))

-- the low digit is adjusted where the sum of the low digits reaches 10
low_reaches : (low a : ℕ) (h : Bool) → low < 20 → a % 16 ≡ low % 16 → h ≡ leb 16 low → Reaches 10 low (bit (ltb 9 (a % 16) || h))
low_reaches low a h small rest half = grind (arith, nat_tests)

-- the high digit is adjusted where the sum of the bytes reaches 154, as the decimal sum then reaches 100
high_reaches : (sum a : ℕ) (c : Bool) → sum < 410 → a ≡ sum % 256 → c ≡ leb 256 sum → Reaches 154 sum (bit (ltb 0x99 a || c))
high_reaches sum a c small rest carry = grind (arith, nat_tests)

-- a byte that is made of two digits holds them
holds_digits : (t u r : ℕ) → t < 10 → u < 10 → r ≡ 16 * t + u → TwoDigits r × (decimal_value r ≡ 10 * t + u)
holds_digits t u r a b e = ((omega arith, omega arith), omega arith)

-- where the high digit is adjusted, the sum loses 160, whether it had a carry or not
high_lost :
    (sum by r : ℕ)
    → sum < 308
    → by < 7
    → 160 ≤ sum + by
    → (sum < 256) ⊎ (256 ≤ sum)
    → r ≡ (sum % 256 + by + 0x60) % 256
    → r + 160 ≡ sum + by
high_lost sum by r s b h (inl t) e = omega arith
high_lost sum by r s b h (inr t) e = omega arith

-- where the high digit is not adjusted, the sum loses nothing
none_lost : (sum by r : ℕ) → sum < 154 → by < 7 → r ≡ (sum % 256 + by) % 256 → r ≡ sum + by
none_lost sum by r s b e = let small : sum % 256 ≡ sum = omega arith in omega (arith, rw small at e)

-- the sum, adjusted, shows the decimal sum
adjusted_shows :
    (high low p q r : ℕ)
    → high < 19
    → low < 20
    → Reaches 10 low p
    → Reaches 154 (16 * high + low) q
    → r ≡ ((16 * high + low) % 256 + 6 * p + 0x60 * q) % 256
    → TwoDigits r × (100 * q + decimal_value r ≡ 10 * high + low)
adjusted_shows high low p q r h l (inl a) (inl b) e =
    let lost =
    high_lost (16 * high + low) 6 r (omega arith) (omega arith) (omega arith) (cases_lt (16 * high + low) 256)
    (e ∙ ap (λ n. n % 256) (omega arith)) in
    let held = holds_digits (high - 9) (low - 10) r (omega arith) (omega arith) (omega arith) in
    (held.0, omega arith)
adjusted_shows high low p q r h l (inl a) (inr b) e =
    let lost = none_lost (16 * high + low) 6 r b.1 (omega arith) (e ∙ ap (λ n. n % 256) (omega arith)) in
    let held = holds_digits (high + 1) (low - 10) r (omega arith) (omega arith) (omega arith) in
    (held.0, omega arith)
adjusted_shows high low p q r h l (inr a) (inl b) e =
    let lost =
    high_lost (16 * high + low) 0 r (omega arith) (omega arith) (omega arith) (cases_lt (16 * high + low) 256)
    (e ∙ ap (λ n. n % 256) (omega arith)) in
    let held = holds_digits (high - 10) low r (omega arith) (omega arith) (omega arith) in
    (held.0, omega arith)
adjusted_shows high low p q r h l (inr a) (inr b) e =
    let lost = none_lost (16 * high + low) 0 r b.1 (omega arith) (e ∙ ap (λ n. n % 256) (omega arith)) in
    let held = holds_digits high low r (omega arith) (omega arith) (omega arith) in
    (held.0, omega arith)

-- the adjustment of a sum answers the decimal sum
decimal_sum : (a : ℕ) (g : Flags) → DecimalSum (a, g) (decimal_adjust_of a g)
decimal_sum a g x y carry f dx dy e =
    let k = bit_small carry in
    let low : ℕ = x % 16 + y % 16 + bit carry in
    let high : ℕ = x / 16 + y / 16 in
    let byte : a ≡ (16 * high + low) % 256 = ap (λ p. p.0) e ∙ ap (λ s. s % 256) (omega arith) in
    let half : g.h ≡ leb 16 low = ap (λ p. p.1.h) e in
    let whole : g.c ≡ leb 256 (16 * high + low) = ap (λ p. p.1.c) e ∙ ap (λ s. leb 256 s) (omega arith) in
    let shown = adjusted_shows high low (bit (low_adjusted a g)) (bit (high_adjusted a g)) (adjusted a g) (omega arith) (omega arith) (low_reaches low a g.h (omega arith) (omega arith) half) (high_reaches (16 * high + low) a g.c (omega arith) byte whole) (omega arith) in
    (shown.0, shown.1 ∙ omega arith)

-- what the contract says of an answer that is the adjustment
pub adjusts : (a : ℕ) (g : Flags) (r : ℕ × Flags) → r ≡ decimal_adjust_of a g → record { value : r ≡ decimal_adjust_of a g; digits : DecimalSum (a, g) r }
adjusts a g r e = record { value = e; digits = subst (λ s. DecimalSum (a, g) s) (sym e) (decimal_sum a g) }
