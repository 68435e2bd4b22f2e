-- The meaning of a run of a search: one that was left says nothing, and only a limited one is left.
use Rattle.std.specs.Prelude.{ℕ, Bool, true, false, Option, None, Some}
use Rattle.latin_board.specs.Squares.{GridValue}
use Rattle.trail_solver.specs.declared.answer.Answer.{Answer}
use Rattle.trail_solver.specs.Inner.Added.{Adds}

-- where the run went through all: the answer is what these solutions and those that were found before give together
abbrev pub RunAdds : (GridValue → Type 0) → Option ℕ → Bool → Answer → Answer → Type 0
RunAdds Solution limit true found answer = Adds Solution found answer
RunAdds Solution (Some most) false found answer = Unit {0}
RunAdds Solution None false found answer = ⊥
