-- Worked examples of the definitions.
use Rattle.std.specs.Prelude.{◌≡◌, ℕ, List, [], ◌∷◌, ◌++◌, codes}
use Rattle.alu.specs.Examples.{ArithmeticExamples}
use Rattle.effects.specs.RegisterOnly.{stack_reset}
use Rattle.srecord.specs.Examples.{RecordExamples}
use Rattle.session.specs.Course.{course_prints}

-- a line of input or output
abbrev pub line : List ℕ → List ℕ → List ℕ
line text rest = text ++ 10 ∷ rest

-- an image that counts A down from 5 to 0 and stops, given twenty steps on a core
abbrev pub countdown : List ℕ → List ℕ
countdown core =
    line core (line (codes "S1098000A6054A26FD8ED0") (line (codes "S105FFFE80007D") (line (codes "S9030000FC") (line (codes "R 20") []))))

-- the arithmetic, RSP, two record lines, and the countdown: 12 steps that take 24 cycles on the HCS08 and 23 on the CPU08
pub record WorkedExamples : Type 0 where
  pub arithmetic : ArithmeticExamples
  pub stack : stack_reset 0x1234 ≡ 0x12FF
  pub lines : RecordExamples
  pub hcs08 : course_prints (countdown (codes "H")) ≡ line (codes "     5    12      24 32 32774   0     0   255  98") []
  pub cpu08 : course_prints (countdown (codes "K")) ≡ line (codes "     5    12      23 32 32774   0     0   255  98") []
