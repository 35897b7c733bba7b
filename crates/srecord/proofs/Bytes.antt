-- The bytes that digits spell, one after the other.
use native.Mathlib.Nat.{mod-add-mod}
use Rattle.std.proofs.Common.{◌≡◌, ℕ, zero, suc, ◌+◌, ◌-◌, ◌*◌, ◌/◌, ◌%◌, ◌<◌, ◌≤◌, List, [], ◌∷◌, length, get_or, take, drop, fold, refl, sym, ap, ◌∙◌, arith}
use Rattle.std.proofs.lemmas.List.{get_or-take, get_or-drop}
use Rattle.srecord.specs.Checksum.{sum_of_bytes, checksum_of}
use Rattle.srecord.specs.Digits.{byte_of, byte_at, bytes_of}

pub same_byte : {a b c d : ℕ} → a ≡ c → b ≡ d → byte_of a b ≡ byte_of c d
same_byte {a} {b} {c} {d} p q = ap (λ x. byte_of x b) p ∙ ap (λ x. byte_of c x) q

-- the next byte is one of those after the first two digits
pub next_byte : (high low : ℕ) (cs : List ℕ) (n : ℕ) → byte_at (high ∷ low ∷ cs) (suc n) ≡ byte_at cs n
next_byte high low cs n =
    let first : 2 * suc n ≡ suc (suc (2 * n)) = omega arith in
    let second : 2 * suc n + 1 ≡ suc (suc (2 * n + 1)) = omega arith in
    same_byte (ap (λ k. get_or (high ∷ low ∷ cs) k 0) first) (ap (λ k. get_or (high ∷ low ∷ cs) k 0) second)

sum_of_next : (high low : ℕ) (cs : List ℕ) (n : ℕ) → sum_of_bytes (high ∷ low ∷ cs) (suc n) ≡ byte_of high low + sum_of_bytes cs n
sum_of_next high low cs zero = omega arith
sum_of_next high low cs (suc n) = omega (arith, sum_of_next high low cs n, next_byte high low cs n)

-- bytes that are added up wrap to the low byte of their sum
wrapped_sum : (sum : ℕ) (cs : List ℕ) → sum < 256 → fold (λ s b. (s + b) % 256) sum (bytes_of cs) ≡ (sum + sum_of_bytes cs (length cs / 2)) % 256
wrapped_sum sum [] small = omega arith
wrapped_sum sum (c ∷ []) small = omega arith
wrapped_sum sum (high ∷ low ∷ cs) small =
    let half : suc (suc (length cs)) / 2 ≡ suc (length cs / 2) = omega arith in
    wrapped_sum ((sum + byte_of high low) % 256) cs (omega arith)
    ∙ (mod-add-mod (sum + byte_of high low) 256 (sum_of_bytes cs (length cs / 2))
    ∙ (ap (λ x. x % 256) (omega (arith, sum_of_next high low cs (length cs / 2))) ∙ ap (λ n. (sum + sum_of_bytes (high ∷ low ∷ cs) n) % 256) (sym half)))

pub complement_of_sum : (cs : List ℕ) → 255 - fold (λ s b. (s + b) % 256) 0 (bytes_of cs) ≡ checksum_of cs (length cs / 2)
complement_of_sum cs =
    let sum = sum_of_bytes cs (length cs / 2) in
    let same : 0 + sum ≡ sum = omega arith in
    ap (λ s. 255 - s) (wrapped_sum 0 cs (omega arith) ∙ ap (λ s. s % 256) same)

-- the bytes before a place are those of the part before it
pub sum_before : (cs : List ℕ) (place n : ℕ) → 2 * n ≤ place → sum_of_bytes (take place cs) n ≡ sum_of_bytes cs n
sum_before cs place zero within = refl
sum_before cs place (suc n) within =
    let byte : byte_at (take place cs) n ≡ byte_at cs n = same_byte (get_or-take place cs (2 * n) 0 (omega arith)) (get_or-take place cs (2 * n + 1) 0 (omega arith)) in
    omega (arith, sum_before cs place n (omega arith), byte)

-- and the next byte begins the part after it
pub byte_after : (cs : List ℕ) (n : ℕ) → byte_at (drop (2 * n) cs) 0 ≡ byte_at cs n
byte_after cs n =
    let first : 2 * n + 0 ≡ 2 * n = omega arith in
    same_byte (get_or-drop (2 * n) cs 0 0 ∙ ap (λ k. get_or cs k 0) first) (get_or-drop (2 * n) cs 1 0)
