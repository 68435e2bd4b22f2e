-- Which reasons a grade has, and where they look.
use Rattle.std.specs.Prelude.{ℕ, ◌<◌, nat_le, Bool, true, false}
use Rattle.line_steps.specs.declared.reason.Reason.{Reason}
use Rattle.line_steps.specs.declared.reason.Reason.TheVariants.{Given, Peer, Place, Bound, Stand, Clue, Sign, Set}
use Rattle.line_steps.specs.declared.grade.Grade.{Grade}
use Rattle.line_steps.specs.declared.grade.Grade.TheVariants.{Latin, Easy, Hard}

-- the order of the grades
abbrev pub rank : Grade → ℕ
rank Latin = 0
rank Easy = 1
rank Hard = 2

-- the first grade is below the second
abbrev pub IsLower : Grade → Grade → Type 0
IsLower lower higher = rank lower < rank higher

-- the least grade that has the reason's kind: rows and columns; a clue without pencil marks or a sign; a clue with
-- pencil marks or a group of squares
abbrev pub least_grade : Reason → Grade
least_grade (Given cell) = Latin
least_grade (Peer cell) = Latin
least_grade (Place line index value) = Latin
least_grade (Bound place) = Easy
least_grade (Stand place) = Easy
least_grade (Sign from to) = Easy
least_grade (Clue place) = Hard
least_grade (Set line squares values) = Hard

-- the grade has the reason's kind
abbrev pub has_reason : Grade → Reason → Bool
has_reason grade reason = nat_le (rank (least_grade reason)) (rank grade)

-- the reason is a clue or a sign
abbrev pub is_of_clues : Reason → Bool
is_of_clues (Given cell) = false
is_of_clues (Peer cell) = false
is_of_clues (Place line index value) = false
is_of_clues (Bound place) = true
is_of_clues (Stand place) = true
is_of_clues (Clue place) = true
is_of_clues (Sign from to) = true
is_of_clues (Set line squares values) = false
