-- A hint whose parts have views of their own is one from the start, and the hint of a grid if the start is in view of it.
use Rattle.std.proofs.lemmas.Bool.Decides.{nat_tests}
use Rattle.std.proofs.Common.{◌≡◌, ℕ, ◌*◌, ◌<◌, subst, List, ◌∷◌, ◌++◌, Result, IfOk, sym, ◌∙◌, arith}
use Rattle.latin_board.specs.Squares.{GridValue}
use Rattle.latin_board.specs.declared.out_of_memory.OutOfMemory.{OutOfMemory}
use Rattle.trail_solver.specs.Candidates.{CandidatesValue}
use Rattle.trail_solver.specs.Puzzles.{Puzzle}
use Rattle.named_steps.specs.Chains.{Explains, IsView}
use Rattle.named_steps.proofs.Kept.{completion_in_view}
use Rattle.step_chains.specs.Inner.Views.{SeenValue, IsSeen, seen}
use Rattle.step_chains.specs.Explanations.{Refutes}
use Rattle.named_steps.specs.declared.goal.Goal.{Goal}
use Rattle.named_steps.specs.declared.goal.Goal.TheVariants.{OnlyValue}
use Rattle.line_steps.specs.Chains.{StepValue}
use Rattle.line_steps.specs.declared.grade.Grade.{Grade}
use Rattle.line_steps.proofs.Chains.{IsAntitone}
use Rattle.step_chains.specs.declared.hints.NextHint.{NextHint}
use Rattle.step_chains.specs.declared.hints.NextHint.TheVariants.{Follows, Refuted, Nothing}
use Rattle.step_chains.specs.ChainValues.{AreAllNeeded, AreLive, AreNeededForNothing, EndAtOnce, LeavesNothing, steps_of}
use Rattle.step_chains.specs.NextHints.{IsHint, IsHintFrom, IsRightHint, IsRightWithin}
use Rattle.step_chains.specs.Inner.FromEachView.{IsExplainedFrom, IsRefutation, AreNeededFrom, IsTimelyFrom, IsNextHint, IsTimelyHint, IsNeededHint, SaysAllForced}
use Rattle.step_chains.proofs.Explanations.{leaves_where, seen_itself, shows_in, views_fewer}
use Rattle.step_chains.proofs.Live.{timely_more, timely_parts}
use Rattle.line_steps.specs.Reasons.{Striking}

module _ (Struck : Striking) (less : IsAntitone Struck) (g : SeenValue) (view : CandidatesValue) (is : IsSeen g view) where
  explains_in : (grade : Grade) (steps : List StepValue) (goal : Goal) → IsExplainedFrom Struck grade g steps goal
      → Explains Struck grade g.grid view steps goal
  explains_in grade steps goal e = record {
    goal_of = e.explains.goal_of;
    empty = e.explains.empty;
    shows = shows_in Struck less grade g e.view view steps goal e.in_view is e.explains.shows;
    tight = λ front back step same shows.
        e.explains.tight front back step same (shows_in Struck less grade g view e.view (front ++ back) goal is e.in_view shows);
  }

  leaves_in : (grade : Grade) (a b : CandidatesValue) (steps : List StepValue) (cell : ℕ) → IsSeen g a → IsSeen g b
      → LeavesNothing Struck grade a steps cell → LeavesNothing Struck grade b steps cell
  leaves_in grade a b steps cell first second leaves =
      (leaves_where Struck grade b steps cell (subst (λ (w : ℕ). cell < w * w) (first.size ∙ sym second.size) leaves.inside)).0
      (shows_in Struck less grade g a b steps (OnlyValue cell 0) first second ((leaves_where Struck grade a steps cell leaves.inside).1 leaves))

  refutes_in : (grade : Grade) (steps : List StepValue) (cell : ℕ) → IsRefutation Struck grade g steps cell
      → Refutes Struck grade view steps cell
  refutes_in grade steps cell r = record {
    leaves = leaves_in grade r.view view steps cell r.in_view is r.refutes.leaves;
    tight = λ front back step same leaves.
        r.refutes.tight front back step same (leaves_in grade view r.view (front ++ back) cell is r.in_view leaves);
  }

  live_in : (steps : List StepValue) → IsTimelyFrom g steps → AreLive view steps × EndAtOnce view steps
  live_in steps (other, other_is, timely) =
      timely_parts view steps
      (timely_more view other steps (is.size ∙ sym other_is.size) (views_fewer g view other is other_is) timely)

  needed_in : (grade : Grade) (steps : List StepValue) (goal : Goal) → AreNeededFrom Struck grade g steps goal
      → AreAllNeeded Struck grade view steps goal
  needed_in grade steps goal (other, other_is, needed) = λ front back step less_step cell value same strikes shows.
      needed front back step less_step cell value same strikes
      (shows_in Struck less grade g view other (front ++ less_step ∷ back) goal is other_is shows)

  -- if each number is needed to leave nothing but 0 of a square, each is needed to leave it nothing
  nothing_in : (grade : Grade) (steps : List StepValue) (emptied : ℕ) → AreNeededFrom Struck grade g steps (OnlyValue emptied 0)
      → AreNeededForNothing Struck grade view steps emptied
  nothing_in grade steps emptied needed = λ front back step less_step cell value same strikes leaves.
      needed_in grade steps (OnlyValue emptied 0) needed front back step less_step cell value same strikes
      ((leaves_where Struck grade view (front ++ less_step ∷ back) emptied leaves.inside).1 leaves)

-- a hint whose parts hold, each from a view of its own, is the hint from the start
pub hint_bound : (p : Puzzle) (Struck : Striking) → IsAntitone Struck → (g : GridValue) (start : CandidatesValue) (hint : NextHint)
    → start.size ≡ g.size → IsNextHint Struck (seen g start) hint → IsTimelyHint (seen g start) hint → IsNeededHint Struck (seen g start) hint
    → IsRightWithin p g start hint → SaysAllForced Struck (seen g start) hint → IsHintFrom p Struck g start hint
hint_bound p Struck less g start (Follows grade chain) size least timely needed right forced =
    let is = seen_itself (seen g start) size in
    let steps = steps_of chain.steps.items in
    record {
      least = (
        explains_in Struck less (seen g start) start is grade steps chain.goal least.0,
        λ lower below. least.1 lower below start is,
        λ refuted. least.2 (start, is, refuted),
      );
      live = live_in Struck less (seen g start) start is steps timely;
      needed = needed_in Struck less (seen g start) start is grade steps chain.goal needed;
      right = right;
      forced = λ cell f. forced start cell is f;
    }
hint_bound p Struck less g start (Refuted grade refutation) size least timely needed right forced =
    let is = seen_itself (seen g start) size in
    let steps = steps_of refutation.steps.items in
    record {
      least = (
        refutes_in Struck less (seen g start) start is grade steps refutation.cell least.0,
        λ lower below refuted. least.1 lower below (start, is, refuted),
      );
      live = live_in Struck less (seen g start) start is steps timely;
      needed = nothing_in Struck less (seen g start) start is grade steps refutation.cell needed;
      right = right;
      forced = λ cell f. forced start cell is f;
    }
hint_bound p Struck less g start Nothing size least timely needed right forced =
    let is = seen_itself (seen g start) size in
    record {
      least = (least.0 start is, λ refuted. least.1 (start, is, refuted));
      live = tt;
      needed = tt;
      right = right;
      forced = λ cell f. forced start cell is f;
    }

-- the hint of a result, if there was memory for one, is the hint from the start if its parts hold
pub result_bound : (p : Puzzle) (Struck : Striking) → IsAntitone Struck → (g : GridValue) (start : CandidatesValue)
    (result : Result NextHint OutOfMemory) → start.size ≡ g.size → IfOk result (IsNextHint Struck (seen g start))
    → IfOk result (IsTimelyHint (seen g start)) → IfOk result (IsNeededHint Struck (seen g start)) → IfOk result (IsRightWithin p g start)
    → IfOk result (SaysAllForced Struck (seen g start)) → IfOk result (IsHintFrom p Struck g start)
result_bound p Struck less g start result size least timely needed right forced = grind (arith, nat_tests, hint_bound)

-- a hint that is right within the candidates in view of a grid is right of each solution that keeps its numbers
right_in_view : (p : Puzzle) (g : GridValue) (view : CandidatesValue) (hint : NextHint) → g.size ≡ p.size → IsView g view
    → IsRightWithin p g view hint → IsRightHint p g hint
right_in_view p g view (Follows grade chain) size is right = λ h done. right h done.0 (completion_in_view p g h view size is done)
right_in_view p g view (Refuted grade refutation) size is right = λ h done. right h done.0 (completion_in_view p g h view size is done)
right_in_view p g view Nothing size is right = tt

-- a hint from the candidates in view of a grid is the hint of the grid
pub result_of_grid : (p : Puzzle) (Struck : Striking) (g : GridValue) (view : CandidatesValue) (result : Result NextHint OutOfMemory)
    → g.size ≡ p.size → IsView g view → IfOk result (IsHintFrom p Struck g view) → IfOk result (IsHint p Struck g)
result_of_grid p Struck g view result size is from = grind (arith, nat_tests, right_in_view)
