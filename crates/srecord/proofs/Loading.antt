-- Storing the bytes of data, the first one first.
use Rattle.std.proofs.Common.{◌≡◌, ℕ, zero, suc, ◌+◌, ◌/◌, List, [], ◌∷◌, length, refl, sym, ap, ◌∙◌, arith}
use Rattle.bus.specs.Cell.{Cells, stored}
use Rattle.srecord.specs.Digits.{byte_of, byte_at, bytes_of}
use Rattle.srecord.specs.Load.{stored_data}
use Rattle.srecord.proofs.Bytes.{next_byte}

-- the memory once bytes were stored from an address on, the first one first
abbrev pub stored_bytes : Cells → ℕ → List ℕ → Cells
stored_bytes cells address [] = cells
stored_bytes cells address (byte ∷ bytes) = stored_bytes (stored cells address byte) (address + 1) bytes

-- the first byte may be stored before the others
stored_next : (cells : Cells) (address high low : ℕ) (cs : List ℕ) (n : ℕ) → stored_data cells address (high ∷ low ∷ cs) (suc n) ≡ stored_data (stored cells address (byte_of high low)) (address + 1) cs n
stored_next cells address high low cs zero = let here : address + 0 ≡ address = omega arith in ap (λ a. stored cells a (byte_of high low)) here
stored_next cells address high low cs (suc n) =
    let here : address + suc n ≡ address + 1 + n = omega arith in
    ap (λ m. stored m (address + suc n) (byte_at (high ∷ low ∷ cs) (suc n))) (stored_next cells address high low cs n)
    ∙ (ap (λ a. stored (stored_data (stored cells address (byte_of high low)) (address + 1) cs n) a (byte_at (high ∷ low ∷ cs) (suc n))) here
    ∙ ap (stored (stored_data (stored cells address (byte_of high low)) (address + 1) cs n) (address + 1 + n)) (next_byte high low cs n))

-- storing what digits spell
pub stored_all : (cells : Cells) (address : ℕ) (cs : List ℕ) → stored_bytes cells address (bytes_of cs) ≡ stored_data cells address cs (length cs / 2)
stored_all cells address [] = refl
stored_all cells address (c ∷ []) = refl
stored_all cells address (high ∷ low ∷ cs) =
    let half : suc (suc (length cs)) / 2 ≡ suc (length cs / 2) = omega arith in
    stored_all (stored cells address (byte_of high low)) (address + 1) cs
    ∙ (sym (stored_next cells address high low cs (length cs / 2)) ∙ ap (stored_data cells address (high ∷ low ∷ cs)) (sym half))

-- there are as many bytes as pairs
pub count_of_bytes : (cs : List ℕ) → length (bytes_of cs) ≡ length cs / 2
count_of_bytes [] = refl
count_of_bytes (c ∷ []) = refl
count_of_bytes (high ∷ low ∷ cs) =
    let half : suc (suc (length cs)) / 2 ≡ suc (length cs / 2) = omega arith in
    ap suc (count_of_bytes cs) ∙ sym half
