-- Runs of a search that are left, or add what they find.
use Rattle.std.proofs.Common.{◌≡◌, ◌≢◌, ℕ, Bool, true, false, Option, Some, None, refl, subst}
use Rattle.latin_board.specs.Squares.{GridValue}
use Rattle.trail_solver.specs.declared.answer.Answer.{Answer}
use Rattle.trail_solver.specs.Inner.Added.{Adds}
use Rattle.trail_solver.specs.Inner.Runs.{RunAdds}

-- a run with a limit may be left
pub left_limited : (A : GridValue → Type 0) (limit : Option ℕ) (found answer : Answer) → limit ≢ None → RunAdds A limit false found answer
left_limited A (Some most) found answer some = tt
left_limited A None found answer some = some refl

-- a part that was left is left in the whole
pub left_anyhow : (A B : GridValue → Type 0) (limit : Option ℕ) (found answer first last : Answer) → RunAdds A limit false found answer
    → RunAdds B limit false first last
left_anyhow A B (Some most) found answer first last left = tt
left_anyhow A B None found answer first last left = left

-- a run that went through all adds all
pub through_all : (A : GridValue → Type 0) (limit : Option ℕ) (all : Bool) (found answer : Answer) → all ≡ true → RunAdds A limit all found answer
    → Adds A found answer
through_all A limit all found answer is adds =
    let P : Bool → Type 0 = λ b. RunAdds A limit b found answer in subst P is adds
