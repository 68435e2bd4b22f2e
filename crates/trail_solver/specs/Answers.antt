-- The meaning of an answer for a puzzle's solutions.
use Rattle.std.specs.Prelude.{◌≡◌, ◌≢◌}
use Rattle.latin_board.specs.Squares.{GridValue}
use Rattle.trail_solver.specs.declared.answer.Answer.{Answer}
use Rattle.trail_solver.specs.declared.answer.Answer.TheVariants.{None, One, Several}

-- the answer says how many solutions there are: none, just this one, or at least these two
abbrev pub Fits : (GridValue → Type 0) → Answer → Type 0
Fits Solution None = (g : GridValue) → Solution g → ⊥
Fits Solution (One g) = Solution g × ((h : GridValue) → Solution h → h ≡ g)
Fits Solution (Several g h) = Solution g × Solution h × (g ≢ h)
