-- Hints from the pencil marks of a board of a puzzle that follows by a grade lead on.
use Rattle.std.proofs.Common.{◌≡◌, ◌≢◌, ℕ, ◌*◌, ◌<◌, false, sym, ◌∙◌, subst, arith, inl, inr}
use Rattle.std.proofs.lemmas.Bool.{both_ways, cases_Bool, cases_eq, cases_lt, false_from_ne_true}
use Rattle.number_sets.specs.Sets.{has_number, no_numbers}
use Rattle.latin_board.specs.Boards.{BoardValue, grid_of, marks_at}
use Rattle.latin_board.specs.Lines.{ArePeers}
use Rattle.latin_board.specs.Squares.{GridValue, number_at}
use Rattle.latin_board.proofs.LatinLines.{peers_differ}
use Rattle.trail_solver.specs.Candidates.{CandidatesValue, IsWithin, may_be}
use Rattle.trail_solver.specs.Pairs.{IsPair}
use Rattle.trail_solver.specs.Puzzles.{Puzzle, Solves}
use Rattle.trail_solver.proofs.FilledGrids.{solution_pair}
use Rattle.line_steps.specs.Grades.{rank}
use Rattle.line_steps.specs.Left.{IsFewer}
use Rattle.line_steps.specs.Reasons.{Striking}
use Rattle.line_steps.specs.declared.grade.Grade.{Grade}
use Rattle.line_steps.proofs.Chains.{IsAntitone}
use Rattle.named_steps.specs.Chains.{IsView}
use Rattle.named_steps.specs.StepLaws.{GradesAreNested}
use Rattle.named_steps.proofs.Followed.{fewer_lead}
use Rattle.named_steps.proofs.Kept.{completion_in_view}
use Rattle.step_chains.specs.BoardViews.{IsBoardView, IsMarked}
use Rattle.step_chains.specs.ChainValues.{steps_of}
use Rattle.step_chains.specs.NextHints.{IsHintFrom}
use Rattle.step_chains.specs.declared.hints.NextHint.{NextHint}
use Rattle.step_chains.specs.declared.hints.NextHint.TheVariants.{Follows as Found, Refuted, Nothing}
use Rattle.line_replies.specs.GameFacts.{GameFacts}
use Rattle.json_replies.specs.FairLaws.{IsExplainedBy}
use Rattle.json_replies.specs.FurtherLines.{BoardFacts}
use Rattle.json_replies.specs.MarkedLaws.{IsNumberOf, IsWrongOn, MarksAreNoHarder, MarksLeadOn}
use Rattle.json_replies.specs.declared.start.Start.TheVariants.{Numbers, Marks}
use Rattle.json_replies.proofs.FairHints.{lacking_hint, right_keeps, within_hint, wrong_lacks}

-- ---- the candidates in view of a board, and a solution

-- where no number and no mark is wrong, the solution is within the candidates in view
pub board_within : (p : Puzzle) (b : BoardValue) (s : GridValue) (view : CandidatesValue) → IsBoardView b view → Solves p s → b.size ≡ s.size
    → ((wrong : ℕ) → IsWrongOn b s wrong → ⊥) → IsWithin view s
board_within p b s view is solves size right = record {
  each = λ cell inside.
      let g = grid_of b in
      let value = number_at s cell in
      let here : cell < b.size * b.size = subst (λ (w : ℕ). cell < w * w) is.size inside in
      let pair : IsPair b.size cell value = solution_pair p s b.size cell solves (size ∙ solves.same_size) here in
      let keeps = right_keeps g s (λ wrong so. right wrong (inl so)) in
      elim (cases_eq (number_at g cell) 0) [
        | inl blank ↦
            let apart : (peer : ℕ) → ArePeers b.size peer cell → number_at g peer ≢ value = λ peer peers same.
            let filled : 0 < number_at g peer = omega (arith, same, pair.low) in
            let kept = keeps peer peers.first filled in
            peers_differ s solves.is_grid solves.latin peer cell (subst (λ (w : ℕ). ArePeers w peer cell) size peers) (kept ∙ same) in
            let marked : IsMarked b cell value = elim (cases_eq (marks_at b cell) no_numbers) [
              | inl bare ↦ inl bare
              | inr some ↦ elim (cases_Bool (has_number (marks_at b cell) value)) [
                | inl has ↦ inr has
                | inr lacks ↦ absurd (right cell (inr (here, blank, some, lacks)))
              ]
            ] in
            (is.empty cell value pair blank).1 (apart, marked)
        | inr some ↦ (is.filled cell value pair some).1 (keeps cell here (omega (arith, some)))
      ];
}

-- a square with a wrong number, or with marks that lack its own, lacks that of the solution among the candidates in view
pub board_lacks : (p : Puzzle) (b : BoardValue) (s : GridValue) (view : CandidatesValue) → IsBoardView b view → Solves p s → b.size ≡ s.size
    → (wrong : ℕ) → IsWrongOn b s wrong → (wrong < b.size * b.size) × (may_be view wrong (number_at s wrong) ≡ false)
board_lacks p b s view is solves size wrong (inl so) =
    (so.0, wrong_lacks p (grid_of b) s view wrong solves size (λ value pair some. (is.filled wrong value pair some).0) so)
board_lacks p b s view is solves size wrong (inr (within, blank, some, lacks)) = (
  within,
  false_from_ne_true (may_be view wrong (number_at s wrong)) (λ may.
      let pair = solution_pair p s b.size wrong solves (size ∙ solves.same_size) within in
      elim ((is.empty wrong (number_at s wrong) pair blank).0 may).1 [
        | inl bare ↦ some bare
        | inr has ↦ both_ways (has_number (marks_at b wrong) (number_at s wrong)) lacks has
      ]),
)

-- ---- the laws

-- the number of a hint from candidates is that of a solution within them
right_number : (p : Puzzle) (Struck : Striking) (grade : Grade) (g s : GridValue) (view : CandidatesValue) (hint : NextHint) → Solves p s
    → IsWithin view s → IsHintFrom p Struck g view hint → IsExplainedBy grade hint → IsNumberOf s g hint
right_number p Struck grade g s view (Found own chain) solves within is explained = is.right s solves within
right_number p Struck grade g s view (Refuted own refutation) solves within is explained = absurd explained
right_number p Struck grade g s view Nothing solves within is explained = absurd explained

-- hints from the marks of a board of such a puzzle lead on
pub marks_lead_on : {P : Type 0} (f : GameFacts P) (b : BoardFacts P) → ((p : P) → IsAntitone (b.struck_by p)) → GradesAreNested b.struck_by
    → MarksLeadOn f b
marks_lead_on f b less nested p grade s shown cell Numbers view hint solves follows size inside empty (is, from, refuted) = (
  λ right.
      let g = grid_of shown in
      let within = completion_in_view (f.rules.puzzle p) g s view (size ∙ solves.same_size) is
      (solves, right_keeps g s (λ wrong so. right wrong (inl so))) in
      let explained = within_hint (f.rules.puzzle p) (b.struck_by p) (less p) (nested p) s g view cell solves size is.size inside empty grade hint
      follows from within in
      (explained, right_number (f.rules.puzzle p) (b.struck_by p) grade g s view hint solves within from explained),
  λ wrong so. refuted,
)
marks_lead_on f b less nested p grade s shown cell (Marks unmarked) view hint solves follows size inside empty (is, from, told) = (
  λ right.
      let g = grid_of shown in
      let within = board_within (f.rules.puzzle p) shown s view is solves size right in
      let explained = within_hint (f.rules.puzzle p) (b.struck_by p) (less p) (nested p) s g view cell solves size is.size inside empty grade hint
      follows from within in
      (explained, right_number (f.rules.puzzle p) (b.struck_by p) grade g s view hint solves within from explained),
  λ wrong so.
      let lacks = board_lacks (f.rules.puzzle p) shown s view is solves size wrong so in
      lacking_hint (f.rules.puzzle p) (b.struck_by p) (less p) (nested p) s (grid_of shown) view cell solves size is.size inside empty grade hint
      follows from wrong lacks.0 lacks.1,
)

-- what is in view of a board is in view of its numbers, too
board_fewer : (b : BoardValue) (numbers view : CandidatesValue) → IsView (grid_of b) numbers → IsBoardView b view → IsFewer numbers view
board_fewer b numbers view bare is = λ cell value left.
    let pair : IsPair b.size cell value = subst (λ (w : ℕ). IsPair w cell value) is.size left.pair in
    record {
      pair = subst (λ (w : ℕ). IsPair w cell value) (sym bare.size) pair;
      may = elim (cases_eq (number_at (grid_of b) cell) 0) [
        | inl blank ↦ (bare.empty cell value pair blank).1 ((is.empty cell value pair blank).0 left.may).0
        | inr some ↦ (bare.filled cell value pair some).1 ((is.filled cell value pair some).0 left.may)
      ];
    }

pub marks_are_no_harder : {P : Type 0} (f : GameFacts P) (b : BoardFacts P) → ((p : P) → IsAntitone (b.struck_by p)) → MarksAreNoHarder f b
marks_are_no_harder f b less p shown numbers view grade most chain other bare is before from = elim (cases_lt (rank most) (rank grade)) [
  | inl below ↦
      let e = before.least.0 in
      let shows = fewer_lead (b.struck_by p) (less p) most numbers view (steps_of other.steps.items) other.goal (bare.size ∙ sym is.size)
      (board_fewer shown numbers view bare is) e.shows in
      absurd (from.least.1 most below (steps_of other.steps.items) other.goal e.goal_of e.empty shows)
  | inr within ↦ within
]
