-- The solution that a grade leaves.
use Rattle.std.proofs.Common.{◌≡◌, ℕ, ◌+◌, ◌*◌, ◌<◌, Some, [], refl, sym, ◌∙◌, subst, arith}
use Rattle.latin_board.specs.Squares.{GridValue, number_at}
use Rattle.latin_board.proofs.Numbers.{same_numbers}
use Rattle.trail_solver.specs.Candidates.{CandidatesValue, IsOnly, IsWithin}
use Rattle.trail_solver.specs.Puzzles.{Puzzle, Solves}
use Rattle.trail_solver.specs.Inner.Squares.{IsFilled}
use Rattle.line_steps.specs.Left.{IsLeft, all_of, IsEmptied}
use Rattle.line_steps.specs.Chains.{left_by, LeadsTo}
use Rattle.line_steps.specs.Settled.{IsClosure}
use Rattle.named_steps.specs.Following.{Follows}
use Rattle.line_steps.proofs.Emptied.{solved_holds}
use Rattle.line_steps.specs.Grades.{rank}
use Rattle.named_steps.specs.Graded.{IsSolutionBy, IsGradeOf, FollowsBy}
use Rattle.named_steps.specs.Inner.Fills.{HasOpen}
use Rattle.named_steps.proofs.Antitone.{chain_settled, closure_fewer}
use Rattle.line_steps.proofs.Chains.{IsAntitone, left_size}
use Rattle.named_steps.proofs.Followed.{follows_up}
use Rattle.line_steps.proofs.KeptSolutions.{IsSoundFor, number_left, chain_keeps}
use Rattle.line_steps.specs.declared.grade.Grade.{Grade}
use Rattle.line_steps.specs.declared.grade.Grade.TheVariants.{Latin, Easy, Hard}
use Rattle.line_steps.specs.Reasons.{Striking}

-- candidates with an empty trail are all pairs of their size
all_pairs : (c : CandidatesValue) (w : ℕ) → c.size ≡ w → c.trail ≡ [] → c ≡ all_of w
all_pairs c w size none = λ i. record { size = size i; trail = none i }

-- each grid is within all pairs
within_all : (w : ℕ) (g : GridValue) → IsWithin (all_of w) g
within_all w g = record { each = λ cell inside. refl }

-- when a grade is settled, a solution that follows has the only value that is left of each square
follows_left : (p : Puzzle) (Struck : Striking) → IsSoundFor p Struck → IsAntitone Struck → (grade : Grade)
    (g : GridValue) (d : CandidatesValue) → Solves p g → IsClosure Struck grade (all_of g.size) d → Follows Struck grade g
    → (cell : ℕ) → cell < d.size * d.size → IsOnly d cell (number_at g cell)
follows_left p Struck sound less grade g d s h f = λ cell inside.
    let here : cell < g.size * g.size = subst (λ (w : ℕ). cell < w * w) h.size inside in
    let end = left_by (all_of g.size) h.steps in
    let size : end.size ≡ g.size = left_size (all_of g.size) h.steps in
    let within = chain_keeps p Struck sound (all_of g.size) h.steps g s.same_size h.chain s (within_all g.size g) in
    let number : IsLeft d cell (number_at g cell) =
    h.left.1 cell (number_at g cell) (number_left p end g cell (size ∙ s.same_size) s within (subst (λ (w : ℕ). cell < w * w) (sym size) here)) in
    let fewer = chain_settled Struck less grade (all_of g.size) d f.steps f.allowed f.chain (closure_fewer Struck grade (all_of g.size) d h) h.settled in
    grind arith

-- a grade leaves of all pairs just as much as of candidates with an empty trail
from_all : (Struck : Striking) (grade : Grade) (w : ℕ) (c d : CandidatesValue) → c.size ≡ w → c.trail ≡ []
    → IsClosure Struck grade c d → IsClosure Struck grade (all_of w) d
from_all Struck grade w c d size none h = subst (λ a. IsClosure Struck grade a d) (all_pairs c w size none) h

-- the grid that is left, where it solves the puzzle, is a solution that follows
pub found_follows : (p : Puzzle) (Struck : Striking) (grade : Grade) (c d : CandidatesValue) (g : GridValue)
    → c.size ≡ p.size → c.trail ≡ [] → IsClosure Struck grade c d → IsFilled d g → Solves p g → IsSolutionBy p Struck grade g
found_follows p Struck grade c d g size none h fill s = grind (arith, from_all)

-- where several values or none are left of a square, no solution follows
pub open_none : (p : Puzzle) (Struck : Striking) → IsSoundFor p Struck → IsAntitone Struck → (grade : Grade)
    (c d : CandidatesValue) → c.size ≡ p.size → c.trail ≡ [] → IsClosure Struck grade c d → HasOpen d → FollowsBy p Struck grade → ⊥
open_none p Struck sound less grade c d size none h open_ f =
    let g = f.0 in
    let s = f.1.solves in
    let k = from_all Struck grade g.size c d (size ∙ sym s.same_size) none h in
    open_.2 (number_at g open_.0) (follows_left p Struck sound less grade g d s k f.1.follows open_.0 open_.1)

-- where a square is left nothing, no solution follows
pub emptied_none : (p : Puzzle) (Struck : Striking) → IsSoundFor p Struck → (grade : Grade) (c d : CandidatesValue) → c.size ≡ p.size
    → c.trail ≡ [] → LeadsTo Struck grade c d → IsEmptied d → FollowsBy p Struck grade → ⊥
emptied_none p Struck sound grade c d size none h emptied f =
    let s = f.1.solves in
    let within : IsWithin c f.0 =
    subst (λ (a : CandidatesValue). IsWithin a f.0) (sym (all_pairs c f.0.size (size ∙ sym s.same_size) none)) (within_all f.0.size f.0) in
    solved_holds p Struck sound grade f.0 c d size s within h emptied

-- a square has at most one only value
only_same : (c : CandidatesValue) (cell a b : ℕ) → IsOnly c cell a → IsOnly c cell b → a ≡ b
only_same c cell a b one other = other.alone a one.low one.high one.left

-- where the grid that is left is no solution, none follows
pub filled_none : (p : Puzzle) (Struck : Striking) → IsSoundFor p Struck → IsAntitone Struck → (grade : Grade)
    (c d : CandidatesValue) (g : GridValue) → c.size ≡ p.size → c.trail ≡ [] → IsClosure Struck grade c d → IsFilled d g → (Solves p g → ⊥)
    → FollowsBy p Struck grade → ⊥
filled_none p Struck sound less grade c d g size none h fill wrong f =
    let s = f.1.solves in
    let k = from_all Struck grade f.0.size c d (size ∙ sym s.same_size) none h in
    let sizes : g.size ≡ f.0.size = fill.same_size ∙ k.size in
    let same : g ≡ f.0 = same_numbers g f.0 fill.is_grid s.is_grid sizes (λ cell inside.
    let here : cell < d.size * d.size = subst (λ (w : ℕ). cell < w * w) fill.same_size inside in
    only_same d cell (number_at g cell) (number_at f.0 cell) (fill.each cell here) (follows_left p Struck sound less grade f.0 d s k f.1.follows cell here)) in
    wrong (subst (λ (x : GridValue). Solves p x) (sym same) s)

-- a puzzle that follows by none of the three grades follows by no grade
pub none_follows : (p : Puzzle) (Struck : Striking) → (FollowsBy p Struck Latin → ⊥) → (FollowsBy p Struck Easy → ⊥)
    → (FollowsBy p Struck Hard → ⊥) → (grade : Grade) → FollowsBy p Struck grade → ⊥
none_follows p Struck latin easy hard Latin f = latin f
none_follows p Struck latin easy hard Easy f = easy f
none_follows p Struck latin easy hard Hard f = hard f

-- ---- the least grade

-- a puzzle that follows by the lowest grade has that grade
pub graded_lowest : (p : Puzzle) (Struck : Striking) → FollowsBy p Struck Latin → IsGradeOf p Struck (Some Latin)
graded_lowest p Struck follows = (follows, λ lower less f. absurd (omega (arith, less)))

-- a puzzle that follows by a grade, but not by the one before it, has that grade
pub graded_next : (p : Puzzle) (Struck : Striking) (before grade : Grade) → rank grade ≡ rank before + 1 → FollowsBy p Struck grade
    → (FollowsBy p Struck before → ⊥) → IsGradeOf p Struck (Some grade)
graded_next p Struck before grade next follows none = grind (arith, follows_up)
