-- The lines of a text.
use Rattle.std.specs.Prelude.{◌≡◌, ℕ, cond, ◌⊎◌, List, [], ◌∷◌, ◌++◌, ◌==◌}

-- the first line: what stands before the first line feed (10), or before the end
abbrev pub first_line : List ℕ → List ℕ
first_line [] = []
first_line (c ∷ cs) = cond (c == 10) [] (c ∷ first_line cs)

-- the text after the first line and its line feed
abbrev pub after_line : List ℕ → List ℕ
after_line [] = []
after_line (c ∷ cs) = cond (c == 10) cs (after_line cs)

-- a character before the first of some lines; where there is none it is a line of its own
abbrev pub longer_first : ℕ → List (List ℕ) → List (List ℕ)
longer_first c [] = (c ∷ []) ∷ []
longer_first c (line ∷ lines) = (c ∷ line) ∷ lines

-- all lines of a text: a line feed ends a line, and nothing follows a final one
abbrev pub lines_of : List ℕ → List (List ℕ)
lines_of [] = []
lines_of (c ∷ cs) = cond (c == 10) ([] ∷ lines_of cs) (longer_first c (lines_of cs))

-- a line feed stands between the line and the rest, or the line is all of the text
abbrev pub Splits : List ℕ → List ℕ → List ℕ → Type 0
Splits text line rest = (text ≡ line ++ 10 ∷ rest) ⊎ ((text ≡ line) × (rest ≡ []))
