-- Hints from marks that keep the solution lead to the end of a puzzle that follows by a grade.
use Rattle.std.proofs.Common.{◌≡◌, ℕ, ◌*◌, ◌<◌, ◌≤◌, List, [], ◌∷◌, length, sym, ap, ◌∙◌, subst, arith, inl, inr}
use Rattle.std.specs.List.{AllByRecursion}
use Rattle.latin_board.specs.Boards.{BoardValue, grid_of}
use Rattle.latin_board.specs.Squares.{GridValue, IsGrid, number_at}
use Rattle.trail_solver.specs.Candidates.{CandidatesValue}
use Rattle.trail_solver.specs.Puzzles.{Puzzle, Solves}
use Rattle.named_steps.specs.Chains.{goal_cell, goal_value}
use Rattle.named_steps.specs.Following.{Follows}
use Rattle.named_steps.specs.StepLaws.{GradesAreNested}
use Rattle.line_steps.specs.declared.grade.Grade.{Grade}
use Rattle.line_steps.specs.Reasons.{Striking}
use Rattle.line_steps.proofs.Chains.{IsAntitone}
use Rattle.step_chains.specs.NextHints.{IsHint, IsHintFrom}
use Rattle.step_chains.specs.declared.hints.NextHint.{NextHint}
use Rattle.step_chains.specs.declared.hints.NextHint.TheVariants.{Follows as Found, Refuted, Nothing}
use Rattle.line_replies.specs.GameFacts.{GameFacts}
use Rattle.json_replies.specs.FairLaws.{IsExplainedBy, IsWrongAt, empty_count, with_hinted}
use Rattle.json_replies.specs.FurtherLines.{BoardFacts}
use Rattle.json_replies.specs.MarkedHints.{IsMarksHint}
use Rattle.json_replies.specs.MarkedLaws.{AreMarksHintsInTurn, IsNumberOf, MarksLeadToTheEnd}
use Rattle.json_replies.specs.declared.start.Start.{Start}
use Rattle.json_replies.specs.declared.start.Start.TheVariants.{Numbers, Marks}
use Rattle.json_replies.proofs.FairHints.{hints_lead_on}
use Rattle.json_replies.proofs.HintsToEnd.{IsNext, blank_at, filled, full_same, goal_inside, goal_low}
use Rattle.json_replies.proofs.MarkedHints.{marks_lead_on}

-- the hint of a board is one from the candidates with which it is told
told_from : (p : Puzzle) (Struck : Striking) (b : BoardValue) (start : Start) (view : CandidatesValue) (hint : NextHint)
    → IsMarksHint p Struck b start view hint → IsHintFrom p Struck (grid_of b) view hint
told_from p Struck b Numbers view hint (is, from, refuted) = from
told_from p Struck b (Marks unmarked) view hint (is, from, told) = from

module _ {P : Type 0} (f : GameFacts P) (b : BoardFacts P) (less : (p : P) → IsAntitone (b.struck_by p)) (nested : GradesAreNested b.struck_by)
    (p : P) (grade : Grade) (s : GridValue) (solves : Solves (f.rules.puzzle p) s) (follows : Follows (b.struck_by p) grade s) where
  -- the hints of grids lead on
  lead : (g : GridValue) (cell : ℕ) (hint : NextHint) → g.size ≡ s.size → cell < g.size * g.size → number_at g cell ≡ 0
      → IsHint (f.rules.puzzle p) (b.struck_by p) g hint → ((wrong : ℕ) → IsWrongAt g s wrong → ⊥) → IsExplainedBy grade hint
  lead g cell hint size inside empty is right = (hints_lead_on f b less nested p grade s g cell hint solves follows size inside empty is).0 right

  -- what holds of the grid after a hint
  abbrev Next : GridValue → GridValue → Type 0
  Next g next = IsNext (f.rules.puzzle p) (b.struck_by p) grade s solves lead g next

  -- a hint, with its number put in its square, makes a next grid
  number_next : (g : GridValue) (view : CandidatesValue) (hint : NextHint) → IsGrid g → g.size ≡ s.size
      → ((wrong : ℕ) → IsWrongAt g s wrong → ⊥) → IsHintFrom (f.rules.puzzle p) (b.struck_by p) g view hint → IsNumberOf s g hint
      → Next g (with_hinted g hint)
  number_next g view (Found own chain) grid size right is number =
      let of = is.least.0.goal_of in
      filled (f.rules.puzzle p) (b.struck_by p) grade s solves lead g (goal_cell g.size chain.goal) (goal_value chain.goal) grid size right
      (goal_inside g.size chain.goal of) is.least.0.empty (goal_low g.size chain.goal of).0 (goal_low g.size chain.goal of).1 number
  number_next g view (Refuted own refutation) grid size right is number = absurd number
  number_next g view Nothing grid size right is number = absurd number

  -- hints in turn are numbers, and as many as there are blanks lead to the solution
  marks_to_the_end : (shown last : BoardValue) (hints : List NextHint) → IsGrid (grid_of shown) → shown.size ≡ s.size
      → ((wrong : ℕ) → IsWrongAt (grid_of shown) s wrong → ⊥)
      → AreMarksHintsInTurn (f.rules.puzzle p) (b.struck_by p) s shown hints last → length hints ≤ empty_count (grid_of shown)
      → AllByRecursion (IsExplainedBy grade) hints × (length hints ≡ empty_count (grid_of shown) → grid_of last ≡ s)
  marks_to_the_end shown last [] grid size right is few = (
    tt,
    λ none. ap grid_of is ∙ full_same (f.rules.puzzle p) (b.struck_by p) grade s solves lead (grid_of shown) grid size right none,
  )
  marks_to_the_end shown last (hint ∷ hints) grid size right (kept, (start, view, told), (next, wrote, rest)) few =
      let g = grid_of shown in
      let count = grid.count in
      let (cell, inside, blank) = blank_at g.numbers (omega (arith, few)) in
      let (explained, number) = (marks_lead_on f b less nested p grade s shown cell start view hint solves follows size (omega (arith, count, inside))
      blank told).0 (λ wrong so. elim so [ inl other ↦ right wrong other | inr missing ↦ kept wrong missing ]) in
      let from = told_from (f.rules.puzzle p) (b.struck_by p) shown start view hint told in
      let made : Next g (grid_of next) = subst (λ (h : GridValue). Next g h) (sym wrote) (number_next g view hint grid size right from number) in
      let fewer = made.fewer in
      let more = marks_to_the_end next last hints made.grid made.size made.right rest (omega (arith, few, fewer)) in
      ((explained, more.0), λ all. more.1 (omega (arith, all, fewer)))

pub marks_lead_to_the_end : {P : Type 0} (f : GameFacts P) (b : BoardFacts P) → ((p : P) → IsAntitone (b.struck_by p)) → GradesAreNested b.struck_by
    → MarksLeadToTheEnd f b
marks_lead_to_the_end f b less nested p grade s shown last hints solves follows grid size right is few =
    marks_to_the_end f b less nested p grade s solves follows shown last hints grid size right is few
