-- A column: a decimal number, right-justified with blanks.
use Rattle.std.specs.Prelude.{ℕ, zero, suc, ◌+◌, ◌-◌, ◌/◌, ◌%◌, cond, List, [], ◌∷◌, ◌++◌, length, replicate, nat_lt}

-- the decimal digits of a number (0 is 48), the highest first and at most so many of them, with no leading zero
abbrev pub digits_within : ℕ → ℕ → List ℕ
digits_within zero n = []
digits_within (suc places) n = cond (nat_lt n 10) ((48 + n) ∷ []) (digits_within places (n / 10) ++ (48 + n % 10) ∷ [])

-- the decimal digits of a number below 10,000,000,000
abbrev pub decimal : ℕ → List ℕ
decimal n = digits_within 10 n

-- blanks (32) up to the width, then the digits; a wider number is written whole
abbrev pub column : ℕ → ℕ → List ℕ
column width n = replicate (width - length (decimal n)) 32 ++ decimal n
