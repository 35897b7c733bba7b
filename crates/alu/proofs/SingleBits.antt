-- A bit set or cleared among 64 bits, of which the lowest w are kept.
use Rattle.std.proofs.Common.{◌≡◌, ℕ, zero, suc, ◌+◌, ◌-◌, ◌*◌, ◌/◌, ◌%◌, ◌^◌, ◌<◌, ◌≤◌, true, false, cond, eqb, sym, refl, ap, ◌∙◌, bit_and, bit_or, arith}
use Rattle.std.specs.Int.{w64, bit_at, bit_not}
use Rattle.std.proofs.Math.Nat.{mod-eq_of_lt, mul-add-mod_self_right, suc-mul}
use Rattle.std.proofs.lemmas.Nat.{and_mod, or_lt, one_shl, pow-add, pow_below, pow_pos}
use Rattle.std.proofs.lemmas.Nat.Bits.{bit_at_cat_low, bit_at_set_same, bit_at_set_other, bit_at_clear_same, bit_at_clear_other}
use Rattle.std.proofs.lemmas.Bool.Decides.{nat_tests}
use Rattle.alu.specs.Bits.{bit_of, with_bit, without_bit}

-- a bit among 64, as the code shifts it
abbrev pub shifted_one : ℕ → ℕ
shifted_one k = 1 * 2 ^ k % 18446744073709551616

cut_ones : (q m bit : ℕ) → 0 < q → bit < m → (q * m - 1 - bit) % m ≡ m - 1 - bit
cut_ones zero m bit some small = omega arith
cut_ones (suc q) m bit some small =
    let parts : suc q * m - 1 - bit ≡ q * m + (m - 1 - bit) = omega (arith, suc-mul q m) in
    let below : m - 1 - bit < m = omega arith in
    ap (λ (x : ℕ). x % m) parts ∙ mul-add-mod_self_right q m (m - 1 - bit) ∙ mod-eq_of_lt below

module _ (w : ℕ) where
  -- the lowest w bits are those of the whole
  low_bit : (m i : ℕ) → i < w → bit_at (m % 2 ^ w) i ≡ bit_at m i
  low_bit m i h = sym (bit_at_cat_low (m / 2 ^ w) w (m % 2 ^ w) i h) ∙ ap (λ (x : ℕ). bit_at x i) (omega arith)

  -- 64 ones less one, cut to w bits
  cut_mask : (bit : ℕ) → w ≤ 32 → bit < 2 ^ w → (2 ^ 64 - 1 - bit) % 2 ^ w ≡ 2 ^ w - 1 - bit
  cut_mask bit narrow small =
      let total : 64 ≡ 64 - w + w = omega arith in
      let whole : 2 ^ 64 ≡ 2 ^ (64 - w) * 2 ^ w = ap (λ (x : ℕ). 2 ^ x) total ∙ pow-add 2 (64 - w) w in
      ap (λ (x : ℕ). (x - 1 - bit) % 2 ^ w) whole ∙ cut_ones (2 ^ (64 - w)) (2 ^ w) bit (pow_pos (64 - w)) small

  module _ (n k : ℕ) (place : k < w) (narrow : w ≤ 32) (fits : n < 2 ^ w) where
    within : k < 64
    within = omega arith

    one : shifted_one k ≡ 2 ^ k
    one = one_shl k 64 within

    pub set_value : bit_or n (shifted_one k) % 2 ^ w ≡ with_bit w n k
    set_value =
        let set : bit_or n (shifted_one k) % 2 ^ w ≡ bit_or n (2 ^ k) = rw one (mod-eq_of_lt (or_lt w n (2 ^ k) fits (pow_below k w place))) in
        grind (arith, nat_tests)

    pub clear_value : bit_and n (bit_not w64 (shifted_one k)) % 2 ^ w ≡ without_bit w n k
    clear_value =
        let cleared : bit_and n (bit_not w64 (shifted_one k)) % 2 ^ w ≡ bit_and n (2 ^ w - 1 - 2 ^ k) =
        rw one (and_mod n (2 ^ 64 - 1 - 2 ^ k) w ∙ rw (mod-eq_of_lt fits, cut_mask (2 ^ k) narrow (pow_below k w place)) refl) in
        grind (arith, nat_tests)

    pub set_only : (i : ℕ) → bit_of w (bit_or n (shifted_one k) % 2 ^ w) i ≡ cond (eqb i k) true (bit_of w n i)
    set_only i =
        let low = low_bit (bit_or n (shifted_one k)) i in
        let same = bit_at_set_same w64 n k within in
        let other = bit_at_set_other w64 n k within i in
        grind (arith, nat_tests)

    pub clear_only : (i : ℕ) → bit_of w (bit_and n (bit_not w64 (shifted_one k)) % 2 ^ w) i ≡ cond (eqb i k) false (bit_of w n i)
    clear_only i =
        let low = low_bit (bit_and n (bit_not w64 (shifted_one k))) i in
        let same = bit_at_clear_same w64 n k within in
        let other = bit_at_clear_other w64 n k within i in
        grind (arith, nat_tests)
