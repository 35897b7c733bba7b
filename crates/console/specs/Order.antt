-- The orders.
use Rattle.std.specs.Prelude.{ℕ, ◌+◌, ◌-◌, ◌*◌, cond, ◌&&◌, List, [], ◌∷◌, length, Some, None, Option, ◌==◌, nat_le}
use Rattle.console.specs.declared.order.Order.{Order}
use Rattle.console.specs.declared.order.Order.TheVariants.{Run, Raise, Drop}

-- the number that decimal digits (48 to 57) write after the number so far; no other character may stand there
abbrev pub digits_value : ℕ → List ℕ → Option ℕ
digits_value sofar [] = Some sofar
digits_value sofar (c ∷ cs) = cond (nat_le 48 c && nat_le c 57) (digits_value (sofar * 10 + (c - 48)) cs) None

-- the number that one to five digits write
abbrev pub number_of : List ℕ → Option ℕ
number_of digits = cond (nat_le 1 (length digits) && nat_le (length digits) 5) (digits_value 0 digits) None

-- a letter beside a number, where there is a number
abbrev pub beside : ℕ → Option ℕ → Option (ℕ × ℕ)
beside letter None = None
beside letter (Some n) = Some (letter, n)

-- the letter and the number of a line: one blank (32) stands between them
abbrev pub parts_of : List ℕ → Option (ℕ × ℕ)
parts_of [] = None
parts_of (letter ∷ []) = None
parts_of (letter ∷ blank ∷ digits) = cond (blank == 32) (beside letter (number_of digits)) None

-- R (82) runs, U (85) raises, D (68) drops
abbrev pub order_for : Option (ℕ × ℕ) → Option Order
order_for None = None
order_for (Some (letter, n)) =
    cond (letter == 82) (Some (Run n)) (cond (letter == 85) (Some (Raise n)) (cond (letter == 68) (Some (Drop n)) None))

-- the order that a line is
abbrev pub order_of : List ℕ → Option Order
order_of line = order_for (parts_of line)
