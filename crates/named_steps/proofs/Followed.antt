-- Grids that follow by a grade: each is the only solution, follows by higher grades, and boards lead to it.
use Rattle.std.proofs.Common.{◌≡◌, ◌≢◌, ℕ, ◌*◌, ◌<◌, ◌≤◌, true, false, arith, List, [], ◌∷◌, refl, sym, ◌∙◌, subst}
use Rattle.std.proofs.lemmas.Bool.{both_ways}
use Rattle.latin_board.specs.Squares.{GridValue, number_at}
use Rattle.latin_board.proofs.Numbers.{same_numbers}
use Rattle.trail_solver.specs.Candidates.{CandidatesValue, IsWithin, may_be}
use Rattle.trail_solver.specs.Pairs.{IsPair}
use Rattle.trail_solver.specs.Puzzles.{Puzzle, Solves}
use Rattle.trail_solver.specs.Solutions.{IsOnlySolution}
use Rattle.trail_solver.specs.Completions.{Completes}
use Rattle.line_steps.specs.Left.{IsFewer, all_of, without}
use Rattle.line_steps.specs.Grades.{IsLower, has_reason, rank}
use Rattle.named_steps.specs.Chains.{Shows, IsView}
use Rattle.line_steps.specs.Chains.{StepValue, IsChain, left_by, AreOfGrade}
use Rattle.named_steps.specs.Following.{Follows, IsRefuted}
use Rattle.line_steps.proofs.Chains.{IsAntitone, chain_less, left_fewer, left_size, higher_has}
use Rattle.named_steps.proofs.Kept.{completion_in_view}
use Rattle.line_steps.proofs.KeptSolutions.{IsSoundFor, number_left, chain_keeps}
use Rattle.line_steps.specs.declared.reason.Reason.{Reason}
use Rattle.line_steps.specs.declared.grade.Grade.{Grade}
use Rattle.named_steps.proofs.Shown.{shown_less}
use Rattle.named_steps.specs.declared.goal.Goal.{Goal}
use Rattle.named_steps.specs.declared.goal.Goal.TheVariants.{OnlyValue}
use Rattle.line_steps.specs.Reasons.{Striking}

-- ---- the only solution

-- each grid is within all pairs of its size
within_all : (w : ℕ) (g : GridValue) → IsWithin (all_of w) g
within_all w g = record { each = λ cell inside. refl }

-- a solution that follows is the only one
pub follows_only : (p : Puzzle) (Struck : Striking) → IsSoundFor p Struck → (grade : Grade) (g : GridValue)
    → Follows Struck grade g → Solves p g → IsOnlySolution p g
follows_only p Struck sound grade g f s = record {
  solves = s;
  only = λ h other.
      let end = left_by (all_of g.size) f.steps in
      let size : end.size ≡ p.size = left_size (all_of g.size) f.steps ∙ s.same_size in
      grind (arith, chain_keeps, within_all, same_numbers, left_size, number_left);
}

-- ---- the next grade

-- steps of a grade are steps of each grade that has all its kinds
pub next_has : (lower higher : Grade) → ((reason : Reason) → has_reason lower reason ≡ true → has_reason higher reason ≡ true)
    → (steps : List StepValue) → AreOfGrade lower steps → AreOfGrade higher steps
next_has lower higher has [] h = tt
next_has lower higher has (step ∷ steps) h = (has step.reason h.0, next_has lower higher has steps h.1)

-- a grid that follows by a grade follows by those above it
pub follows_up : (Struck : Striking) (lower higher : Grade) (g : GridValue) → rank lower ≤ rank higher → Follows Struck lower g
    → Follows Struck higher g
follows_up Struck lower higher g up f = grind (arith, next_has, higher_has)

-- a grid that follows by a grade follows by each higher one
pub grades_nested : (Struck : Striking) (lower higher : Grade) (g : GridValue) → IsLower lower higher → Follows Struck lower g
    → Follows Struck higher g
grades_nested Struck lower higher g up f = follows_up Struck lower higher g (omega (arith, up)) f

-- ---- more items

-- a chain by one relation of strikes is a chain by a wider one
chain_more : (Less More : Striking)
    → ((c : CandidatesValue) (reason : Reason) (cell value : ℕ) → Less c reason cell value → More c reason cell value)
    → (c : CandidatesValue) (steps : List StepValue) → IsChain Less c steps → IsChain More c steps
chain_more Less More more c [] h = tt
chain_more Less More more c (step ∷ steps) h = (
  λ cell value has. ((h.0 cell value has).0, more c step.reason cell value (h.0 cell value has).1),
  chain_more Less More more (without c step.strikes) steps h.1,
)

-- a grid that follows by one relation of strikes follows by a wider one
pub follows_more : (Less More : Striking)
    → ((c : CandidatesValue) (reason : Reason) (cell value : ℕ) → Less c reason cell value → More c reason cell value)
    → (grade : Grade) (g : GridValue) → Follows Less grade g → Follows More grade g
follows_more Less More more grade g f = grind (arith, chain_more)

-- ---- boards

-- candidates are fewer than all pairs of their size, or as many
all_fewer : (w : ℕ) (c : CandidatesValue) → c.size ≡ w → IsFewer (all_of w) c
all_fewer w c size = λ cell value h. record { pair = subst (λ (n : ℕ). IsPair n cell value) size h.pair; may = refl }

-- the chain by which a grid follows is a chain from any candidates of its size, and leaves no more of them
from_view : (Struck : Striking) → IsAntitone Struck → (grade : Grade) (s : GridValue) (c : CandidatesValue)
    (f : Follows Struck grade s) → c.size ≡ s.size → IsChain Struck c f.steps × IsFewer (left_by (all_of s.size) f.steps) (left_by c f.steps)
from_view Struck less grade s c f size = chain_less Struck less (all_of s.size) c f.steps (sym size) (all_fewer s.size c size) f.chain

-- from each board of a puzzle that follows by the grade, a chain shows the number of each square
pub boards_lead : (Struck : Striking) → IsAntitone Struck → (grade : Grade) (s g : GridValue)
    (view : CandidatesValue) (cell : ℕ) → Follows Struck grade s → g.size ≡ s.size → IsView g view → cell < s.size * s.size
    → (steps : List StepValue) × Shows Struck grade view steps (OnlyValue cell (number_at s cell))
boards_lead Struck less grade s g view cell f size in_view inside =
    let there = from_view Struck less grade s view f (in_view.size ∙ size) in grind arith

-- from a board with a wrong number, a chain leaves nothing of that number's square
pub boards_refuted : (Struck : Striking) → IsAntitone Struck → (grade : Grade) (s g : GridValue)
    (view : CandidatesValue) (cell : ℕ) → Follows Struck grade s → g.size ≡ s.size → IsView g view → cell < s.size * s.size
    → number_at g cell ≢ 0 → number_at g cell ≢ number_at s cell
    → IsRefuted Struck grade view
boards_refuted Struck less grade s g view cell f size in_view inside some wrong =
    let there = from_view Struck less grade s view f (in_view.size ∙ size) in
    record {
      steps = f.steps;
      chain = there.0;
      allowed = f.allowed;
      cell = cell;
      inside = subst (λ (w : ℕ). cell < w * w) (sym (in_view.size ∙ size)) inside;
      nothing = λ value left. grind (arith, left_fewer);
    }

-- a board that is refuted is completed by no solution
pub refuted_none : (p : Puzzle) (Struck : Striking) → IsSoundFor p Struck → (grade : Grade) (g : GridValue)
    (view : CandidatesValue) → g.size ≡ p.size → IsView g view → IsRefuted Struck grade view → (h : GridValue) → Completes p g h → ⊥
refuted_none p Struck sound grade g view size in_view r h done =
    let view_size : view.size ≡ p.size = in_view.size ∙ size in
    let within = chain_keeps p Struck sound view r.steps h view_size r.chain done.0 (completion_in_view p g h view size in_view done) in
    let end = left_by view r.steps in
    let end_size : end.size ≡ view.size = left_size view r.steps in
    let inside : r.cell < end.size * end.size = subst (λ (w : ℕ). r.cell < w * w) (sym end_size) r.inside in
    r.nothing (number_at h r.cell) (number_left p end h r.cell (end_size ∙ view_size) done.0 within inside)

-- ---- from any candidates

-- from any candidates of its size a chain shows the number of each square of a grid that follows
pub candidates_lead : (Struck : Striking) → IsAntitone Struck → (grade : Grade) (s : GridValue) (c : CandidatesValue)
    (cell : ℕ) → Follows Struck grade s → c.size ≡ s.size → cell < s.size * s.size
    → (steps : List StepValue) × Shows Struck grade c steps (OnlyValue cell (number_at s cell))
candidates_lead Struck less grade s c cell f size inside =
    let there = from_view Struck less grade s c f size in grind arith

-- from candidates that lack a number of a grid that follows, a chain leaves its square nothing
pub lacking_refuted : (Struck : Striking) → IsAntitone Struck → (grade : Grade) (s : GridValue) (c : CandidatesValue)
    (cell : ℕ) → Follows Struck grade s → c.size ≡ s.size → cell < s.size * s.size → may_be c cell (number_at s cell) ≡ false
    → IsRefuted Struck grade c
lacking_refuted Struck less grade s c cell f size inside lacks =
    let there = from_view Struck less grade s c f size in
    record {
      steps = f.steps;
      chain = there.0;
      allowed = f.allowed;
      cell = cell;
      inside = subst (λ (w : ℕ). cell < w * w) (sym size) inside;
      nothing = λ value left. grind (arith, left_fewer, both_ways);
    }

-- candidates that are refuted have no solution within them
pub none_within : (p : Puzzle) (Struck : Striking) → IsSoundFor p Struck → (grade : Grade) (c : CandidatesValue) → c.size ≡ p.size
    → IsRefuted Struck grade c → (h : GridValue) → Solves p h → IsWithin c h → ⊥
none_within p Struck sound grade c size r h solves within =
    let kept = chain_keeps p Struck sound c r.steps h size r.chain solves within in
    let end = left_by c r.steps in
    let end_size : end.size ≡ c.size = left_size c r.steps in
    let inside : r.cell < end.size * end.size = subst (λ (w : ℕ). r.cell < w * w) (sym end_size) r.inside in
    r.nothing (number_at h r.cell) (number_left p end h r.cell (end_size ∙ size) solves kept inside)

-- a chain shows from fewer candidates what it shows from more
pub fewer_lead : (Struck : Striking) → IsAntitone Struck → (grade : Grade) (c d : CandidatesValue) (steps : List StepValue)
    (goal : Goal) → c.size ≡ d.size → IsFewer c d → Shows Struck grade c steps goal → Shows Struck grade d steps goal
fewer_lead Struck less grade c d steps goal size fewer s =
    let there = chain_less Struck less c d steps size fewer s.chain in
    grind (arith, left_size, shown_less)
