-- Chains come to the same from each view of a grid; and what the candidates that a grade leaves of it say.
use Rattle.std.proofs.lemmas.Bool.Decides.{nat_tests}
use Rattle.std.proofs.Common.{◌≡◌, ◌↔◌, ℕ, ◌*◌, ◌<◌, List, sym, ◌∙◌, subst, arith, inl, inr}
use Rattle.trail_solver.specs.Candidates.{CandidatesValue}
use Rattle.line_steps.specs.Left.{IsLeft, IsFewer}
use Rattle.named_steps.specs.Chains.{Shows, IsShown}
use Rattle.line_steps.specs.Chains.{StepValue, LeadsTo}
use Rattle.line_steps.specs.Settled.{IsSettled, IsClosure}
use Rattle.line_steps.proofs.Leads.{leads_size}
use Rattle.named_steps.proofs.Antitone.{chain_settled, closure_fewer}
use Rattle.line_steps.proofs.Chains.{IsAntitone, chain_less}
use Rattle.named_steps.proofs.Shown.{closure_shows, shown_less}
use Rattle.line_steps.specs.declared.grade.Grade.{Grade}
use Rattle.named_steps.specs.declared.goal.Goal.{Goal}
use Rattle.named_steps.specs.declared.goal.Goal.TheVariants.{OnlyValue}
use Rattle.step_chains.specs.declared.aims.Aim.{Aim}
use Rattle.step_chains.specs.Inner.Views.{SeenValue, IsSeen}
use Rattle.step_chains.specs.ChainValues.{HasSome, LeavesNothing}
use Rattle.step_chains.specs.Inner.FromEachView.{NothingIsShown, IsRefutedGrid}
use Rattle.step_chains.specs.Inner.Replays.{Leads}
use Rattle.step_chains.specs.Inner.Goals.{IsOpenShown, IsShownByAll}
use Rattle.step_chains.specs.Inner.Aims.{IsAimOf, IsAimOrNothing, IsAimOrRefuted, aim_goal}
use Rattle.step_chains.proofs.Followed.{shows_where}
use Rattle.step_chains.proofs.Tight.{shows_alike}
use Rattle.line_steps.specs.Reasons.{Striking}

-- ---- views

-- a value that is left of a square in one view is left in each
pub views_fewer : (g : SeenValue) (a b : CandidatesValue) → IsSeen g a → IsSeen g b → IsFewer a b
views_fewer g a b first second = λ cell v left. first.all cell v (second.among cell v left)

-- the start is a view of itself
pub seen_itself : (g : SeenValue) → g.start.size ≡ g.grid.size → IsSeen g g.start
seen_itself g size = record { size = size; among = λ cell v left. left; all = λ cell v left. left }

-- a chain shows a goal from each view or from none
pub shows_in : (Struck : Striking) → IsAntitone Struck → (grade : Grade) (g : SeenValue) (a b : CandidatesValue)
    (steps : List StepValue) (goal : Goal) → IsSeen g a → IsSeen g b → Shows Struck grade a steps goal → Shows Struck grade b steps goal
shows_in Struck less grade g a b steps goal first second =
    shows_alike Struck less grade a b steps goal (first.size ∙ sym second.size) (views_fewer g a b first second)

-- ---- squares that are left nothing

-- nothing is left of a square exactly if its candidates show that nothing but 0 is
pub empty_shown : (c : CandidatesValue) (cell : ℕ) → ((value : ℕ) → IsLeft c cell value → ⊥) ↔ IsShown c (OnlyValue cell 0)
empty_shown c cell = grind arith

-- a chain leaves a square nothing exactly if it shows that nothing but 0 is left
pub leaves_where : (Struck : Striking) (grade : Grade) (c : CandidatesValue) (steps : List StepValue) (cell : ℕ)
    → cell < c.size * c.size → Shows Struck grade c steps (OnlyValue cell 0) ↔ LeavesNothing Struck grade c steps cell
leaves_where Struck grade c steps cell inside = grind (arith, empty_shown)

-- ---- a view and its closure by a grade

-- if the candidates that a grade leaves show no number of an empty square, no chain of the grade does
pub nothing_shown : (Struck : Striking) → IsAntitone Struck → (grade : Grade) (g : SeenValue) (view d : CandidatesValue)
    → IsSeen g view → IsClosure Struck grade view d → ((goal : Goal) → IsOpenShown g.grid d goal → ⊥) → NothingIsShown Struck grade g
nothing_shown Struck less grade g view d is closed none = λ other other_is steps goal goal_of empty shows.
    none goal (record {
      goal_of = goal_of;
      empty = empty;
      shown = closure_shows Struck less grade view d steps goal closed (shows_in Struck less grade g other view steps goal other_is is shows);
    })

-- if a grade leaves something of each square, no chain of the grade leaves a square nothing
pub none_refuted : (Struck : Striking) → IsAntitone Struck → (grade : Grade) (g : SeenValue) (view d : CandidatesValue)
    → IsSeen g view → IsClosure Struck grade view d → HasSome d → IsRefutedGrid Struck grade g → ⊥
none_refuted Struck less grade g view d is closed some r =
    let (other, other_is, refuted) = r in
    let size : other.size ≡ view.size = other_is.size ∙ sym is.size in
    let here = chain_less Struck less other view refuted.steps size (views_fewer g other view other_is is) refuted.chain in
    let fewer = chain_settled Struck less grade view d refuted.steps refuted.allowed here.0 (closure_fewer Struck grade view d closed) closed.settled in
    let inside : refuted.cell < d.size * d.size = subst (λ (w : ℕ). refuted.cell < w * w) (size ∙ sym closed.size) refuted.inside in
    let left = some refuted.cell inside in
    refuted.nothing left.0 (here.1 refuted.cell left.0 (fewer refuted.cell left.0 left.1))

-- a goal that some steps of the grade show is shown by all of them, from each view
pub shown_by_all : (Struck : Striking) → IsAntitone Struck → (grade : Grade) (g : SeenValue) (view d : CandidatesValue)
    (goal : Goal) → IsSeen g view → LeadsTo Struck grade view d → IsShown d goal → IsShownByAll Struck grade g goal
shown_by_all Struck less grade g view d goal is leads shown = λ other e other_is other_closed.
    let size : view.size ≡ other.size = is.size ∙ sym other_is.size in
    let there = chain_less Struck less view other leads.steps size (views_fewer g view other is other_is) leads.chain in
    let fewer = chain_settled Struck less grade other e leads.steps leads.allowed there.0 (closure_fewer Struck grade other e other_closed) other_closed.settled in
    let all : IsFewer d e = grind arith in
    shown_less d e goal (leads_size Struck grade view d leads ∙ size ∙ sym other_closed.size) all shown

-- steps that leave the grade settled show each goal that all steps of the grade show
pub all_show : (Struck : Striking) (grade : Grade) (g : SeenValue) (view d : CandidatesValue) (steps : List StepValue)
    (goal : Goal) → IsSeen g view → Leads Struck grade view steps d → IsSettled Struck grade d → IsShownByAll Struck grade g goal
    → Shows Struck grade view steps goal
all_show Struck grade g view d steps goal is leads settled shown =
    (shows_where Struck grade view d steps goal leads).0 (shown view d is (grind arith))

-- steps come to a square that they leave nothing, and otherwise, with the grade settled, to the given aim
pub all_come_to : (Struck : Striking) (grade : Grade) (g : SeenValue) (view d : CandidatesValue)
    (steps : List StepValue) (aim end : Aim) → IsSeen g view → Leads Struck grade view steps d → (HasSome d → IsSettled Struck grade d)
    → IsShownByAll Struck grade g (aim_goal aim) → IsAimOrNothing d aim end
    → Shows Struck grade view steps (aim_goal end)
all_come_to Struck grade g view d steps aim end is leads settled shown (inl (cell, nothing, same)) = grind (arith, shows_where, empty_shown)
all_come_to Struck grade g view d steps aim end is leads settled shown (inr (some, same)) =
    subst (λ (a : Aim). Shows Struck grade view steps (aim_goal a)) (sym same)
    (all_show Struck grade g view d steps (aim_goal aim) is leads (settled some) shown)

-- steps that come to a square left nothing refute the grid's numbers, and others come to the aim
pub all_refute : (Struck : Striking) (grade : Grade) (g : SeenValue) (view d : CandidatesValue) (steps : List StepValue)
    (aim end : Aim) → IsSeen g view → Leads Struck grade view steps d → IsAimOf g.grid.size aim → IsAimOrNothing d aim end
    → IsAimOf g.grid.size end × IsAimOrRefuted Struck grade g aim end
all_refute Struck grade g view d steps aim end is leads aim_of ended = grind (arith, nat_tests)
