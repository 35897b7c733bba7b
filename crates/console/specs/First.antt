-- The first line: which core the board has.
use Rattle.std.specs.Prelude.{ℕ, cond, List, [], ◌∷◌, Some, None, Option, ◌==◌}
use Rattle.isa.specs.declared.model.Model.{Model}
use Rattle.isa.specs.declared.model.Model.TheVariants.{Cpu08, Hcs08}

-- K (75) names the CPU08, H (72) the HCS08, and no other letter names a core
abbrev pub core_of_letter : ℕ → Option Model
core_of_letter letter = cond (letter == 75) (Some Cpu08) (cond (letter == 72) (Some Hcs08) None)

-- the line is exactly one letter
abbrev pub core_of : List ℕ → Option Model
core_of [] = None
core_of (letter ∷ []) = core_of_letter letter
core_of (letter ∷ next ∷ more) = None
