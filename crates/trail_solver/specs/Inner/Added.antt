-- The answer as more solutions join.
use Rattle.std.specs.Prelude.{◌≡◌, ◌≢◌}
use Rattle.latin_board.specs.Squares.{GridValue}
use Rattle.trail_solver.specs.declared.answer.Answer.{Answer}
use Rattle.trail_solver.specs.declared.answer.Answer.TheVariants.{None, One, Several}
use Rattle.trail_solver.specs.Answers.{Fits}

-- what was found becomes this answer as these solutions join it; two that differ are enough
abbrev pub Adds : (GridValue → Type 0) → Answer → Answer → Type 0
Adds Solution None answer = Fits Solution answer
Adds Solution (One g) None = ⊥
Adds Solution (One g) (One f) = (f ≡ g) × ((h : GridValue) → Solution h → h ≡ g)
Adds Solution (One g) (Several f h) = (f ≡ g) × Solution h × (f ≢ h)
Adds Solution (Several f h) answer = answer ≡ Several f h
