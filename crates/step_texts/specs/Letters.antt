-- The letters that stand for grades in IDs.
use Rattle.std.specs.Prelude.{ℕ, List, codes}
use Rattle.line_steps.specs.declared.grade.Grade.{Grade}
use Rattle.line_steps.specs.declared.grade.Grade.TheVariants.{Latin, Easy, Hard}

-- the letter of a grade in Towers, where the least has none of its own and takes that of the next
abbrev pub towers_grade_text : Grade → List ℕ
towers_grade_text Latin = codes "e"
towers_grade_text Easy = codes "e"
towers_grade_text Hard = codes "h"

-- the letter of a grade in Unequal
abbrev pub unequal_grade_text : Grade → List ℕ
unequal_grade_text Latin = codes "t"
unequal_grade_text Easy = codes "e"
unequal_grade_text Hard = codes "k"
