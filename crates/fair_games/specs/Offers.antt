-- Which sizes and grades are offered.
use Rattle.std.specs.Prelude.{ℕ, Bool, true, false, nat_lt, Option, Some, None}
use Rattle.line_steps.specs.declared.grade.Grade.{Grade}
use Rattle.line_steps.specs.declared.grade.Grade.TheVariants.{Latin, Easy, Hard}

-- the game has a letter for the grade, and the highest grade is of sizes above 3
abbrev pub is_offered : ℕ → Option ℕ → Grade → Bool
is_offered w None grade = false
is_offered w (Some letter) Latin = true
is_offered w (Some letter) Easy = true
is_offered w (Some letter) Hard = nat_lt 3 w

-- the letter, or 0 for none
abbrev pub letter_code : Option ℕ → ℕ
letter_code None = 0
letter_code (Some letter) = letter
