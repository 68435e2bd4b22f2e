-- Hints of a puzzle that follows by a grade lead on.
use Rattle.std.proofs.Common.{◌≡◌, ◌≢◌, ℕ, ◌*◌, ◌<◌, ◌≤◌, true, false, sym, ◌∙◌, subst, arith, inl, inr}
use Rattle.std.proofs.lemmas.Bool.{cases_eq, cases_lt, false_from_ne_true}
use Rattle.latin_board.specs.Squares.{GridValue, number_at}
use Rattle.trail_solver.specs.Candidates.{CandidatesValue, IsWithin, may_be}
use Rattle.trail_solver.specs.Pairs.{IsPair}
use Rattle.trail_solver.specs.Puzzles.{Puzzle, Solves}
use Rattle.trail_solver.specs.Completions.{Keeps}
use Rattle.trail_solver.proofs.FilledGrids.{solution_pair}
use Rattle.named_steps.specs.Following.{Follows, IsRefuted}
use Rattle.named_steps.specs.StepLaws.{GradesAreNested}
use Rattle.named_steps.specs.declared.goal.Goal.TheVariants.{OnlyValue}
use Rattle.line_steps.specs.declared.grade.Grade.{Grade}
use Rattle.line_steps.specs.declared.grade.Grade.TheVariants.{Latin, Easy, Hard}
use Rattle.line_steps.proofs.Chains.{IsAntitone}
use Rattle.named_steps.proofs.Followed.{candidates_lead, lacking_refuted}
use Rattle.named_steps.proofs.Kept.{completion_in_view}
use Rattle.step_chains.specs.declared.hints.NextHint.{NextHint}
use Rattle.step_chains.specs.declared.hints.NextHint.TheVariants.{Follows as Found, Refuted, Nothing}
use Rattle.line_steps.specs.Grades.{IsLower, rank}
use Rattle.step_chains.specs.NextHints.{NothingFollows, IsHintFrom}
use Rattle.line_replies.specs.GameFacts.{GameFacts}
use Rattle.json_replies.specs.FairLaws.{IsExplainedBy, IsWrongAt, HintsLeadOn}
use Rattle.json_replies.specs.FurtherLines.{BoardFacts}
use Rattle.json_replies.specs.MarkedHints.{IsContradiction}
use Rattle.line_steps.specs.Reasons.{Striking}

module _ (p : Puzzle) (Struck : Striking) (less : IsAntitone Struck)
    (nested : (lower higher : Grade) (h : GridValue) → IsLower lower higher → Follows Struck lower h → Follows Struck higher h)
    (s g : GridValue) (view : CandidatesValue) (cell : ℕ) (solves : Solves p s) (size : g.size ≡ s.size) (view_size : view.size ≡ g.size)
    (inside : cell < g.size * g.size) (empty : number_at g cell ≡ 0) where
  -- a puzzle that follows by a grade follows by all steps, too
  by_all : (grade : Grade) → Follows Struck grade s → Follows Struck Hard s
  by_all Latin follows = nested Latin Hard s (omega arith) follows
  by_all Easy follows = nested Easy Hard s (omega arith) follows
  by_all Hard follows = follows

  -- if the puzzle follows by a grade, steps of the grade show a number, since a square is empty
  leads : (grade : Grade) → Follows Struck grade s → NothingFollows Struck grade g view → ⊥
  leads grade follows none =
      let (steps, shows) = candidates_lead Struck less grade s view cell follows (view_size ∙ size) (subst (λ (w : ℕ). cell < w * w) size inside) in
      let pair : IsPair g.size cell (number_at s cell) =
      subst (λ (w : ℕ). IsPair w cell (number_at s cell)) (sym size)
      (solution_pair p s s.size cell solves solves.same_size (subst (λ (w : ℕ). cell < w * w) size inside)) in
      none steps (OnlyValue cell (number_at s cell)) pair empty shows

  -- a grade below which nothing is shown is no greater than that of the puzzle
  least : (grade own : Grade) → Follows Struck grade s → ((lower : Grade) → IsLower lower own → NothingFollows Struck lower g view)
      → rank own ≤ rank grade
  least grade own follows none = elim (cases_lt (rank grade) (rank own)) [
    | inl below ↦ absurd (leads grade follows (none grade below))
    | inr within ↦ within
  ]

  -- where each number of the solution is a candidate, the hint is a number by steps of that grade or of one below
  pub within_hint : (grade : Grade) (hint : NextHint) → Follows Struck grade s → IsHintFrom p Struck g view hint → IsWithin view s
      → IsExplainedBy grade hint
  within_hint grade (Found own chain) follows is within = least grade own follows is.least.1
  within_hint grade (Refuted own refutation) follows is within = is.right s solves within
  within_hint grade Nothing follows is within = leads Hard (by_all grade follows) is.least.0

  -- candidates that lack a number of the solution are refuted
  lacking : (grade : Grade) → Follows Struck grade s → (at : ℕ) → at < g.size * g.size → may_be view at (number_at s at) ≡ false
      → IsRefuted Struck Hard view
  lacking grade follows at there lacks =
      lacking_refuted Struck less Hard s view at (by_all grade follows) (view_size ∙ size) (subst (λ (w : ℕ). at < w * w) size there) lacks

  -- where a number of the solution is none of the candidates, the hint is a contradiction
  pub lacking_hint : (grade : Grade) (hint : NextHint) → Follows Struck grade s → IsHintFrom p Struck g view hint → (at : ℕ)
      → at < g.size * g.size → may_be view at (number_at s at) ≡ false → IsContradiction hint
  lacking_hint grade (Found own chain) follows is at there lacks = is.least.2 (lacking grade follows at there lacks)
  lacking_hint grade (Refuted own refutation) follows is at there lacks = tt
  lacking_hint grade Nothing follows is at there lacks = is.least.1 (lacking grade follows at there lacks)

-- where no square is wrong the solution keeps the grid's numbers
pub right_keeps : (g s : GridValue) → ((wrong : ℕ) → IsWrongAt g s wrong → ⊥) → Keeps g s
right_keeps g s right at within some =
    let apart : number_at g at ≢ 0 = λ none. absurd (omega (arith, some, none)) in
    elim (cases_eq (number_at s at) (number_at g at)) [ inl same ↦ same | inr other ↦ absurd (right at (within, apart, λ e. other (sym e))) ]

-- a square with a wrong number lacks that of the solution among the candidates in view
pub wrong_lacks : (p : Puzzle) (g s : GridValue) (view : CandidatesValue) (wrong : ℕ) → Solves p s → g.size ≡ s.size
    → ((value : ℕ) → IsPair g.size wrong value → number_at g wrong ≢ 0 → may_be view wrong value ≡ true → value ≡ number_at g wrong)
    → IsWrongAt g s wrong → may_be view wrong (number_at s wrong) ≡ false
wrong_lacks p g s view wrong solves size filled (within, some, other) =
    let pair = solution_pair p s g.size wrong solves (size ∙ solves.same_size) within in
    false_from_ne_true (may_be view wrong (number_at s wrong)) (λ may. other (sym (filled (number_at s wrong) pair some may)))

-- hints of a puzzle that follows by a grade lead on
pub hints_lead_on : {P : Type 0} (f : GameFacts P) (b : BoardFacts P) → ((p : P) → IsAntitone (b.struck_by p)) → GradesAreNested b.struck_by
    → HintsLeadOn f b
hints_lead_on f b less nested p grade s g cell hint solves follows size inside empty is =
    let puzzle = f.rules.puzzle p in
    let view = is.view in (
      λ right. within_hint puzzle (b.struck_by p) (less p) (nested p) s g view cell solves size is.in_view.size inside empty grade hint follows is.is_hint
          (completion_in_view puzzle g s view (size ∙ solves.same_size) is.in_view (solves, right_keeps g s right)),
      λ wrong so. lacking_hint puzzle (b.struck_by p) (less p) (nested p) s g view cell solves size is.in_view.size inside empty grade hint follows is.is_hint
          wrong so.0 (wrong_lacks puzzle g s view wrong solves size (λ value pair some. (is.in_view.filled wrong value pair some).0) so),
    )
