-- Laws of hints from pencil marks: in a puzzle that follows by a grade they lead on, or name what is wrong.
use Rattle.std.specs.Prelude.{◌≡◌, ◌≢◌, ◌⊎◌, ℕ, ◌*◌, ◌<◌, ◌≤◌, false, List, [], ◌∷◌, length}
use Rattle.std.specs.List.{AllByRecursion}
use Rattle.number_sets.specs.Sets.{has_number, no_numbers}
use Rattle.latin_board.specs.Boards.{BoardValue, grid_of, marks_at}
use Rattle.latin_board.specs.Squares.{GridValue, IsGrid, number_at}
use Rattle.trail_solver.specs.Candidates.{CandidatesValue}
use Rattle.trail_solver.specs.Puzzles.{Puzzle, Solves}
use Rattle.named_steps.specs.Chains.{IsView, goal_cell, goal_value}
use Rattle.named_steps.specs.Following.{Follows}
use Rattle.line_steps.specs.Grades.{rank}
use Rattle.line_steps.specs.Reasons.{Striking}
use Rattle.line_steps.specs.declared.grade.Grade.{Grade}
use Rattle.step_chains.specs.BoardViews.{IsBoardView}
use Rattle.step_chains.specs.NextHints.{IsHintFrom}
use Rattle.step_chains.specs.declared.chain.Chain.{Chain}
use Rattle.step_chains.specs.declared.hints.NextHint.{NextHint}
use Rattle.step_chains.specs.declared.hints.NextHint.TheVariants.{Follows as Found}
use Rattle.line_replies.specs.GameFacts.{GameFacts}
use Rattle.json_replies.specs.FairLaws.{IsExplainedBy, IsWrongAt, empty_count, with_hinted}
use Rattle.json_replies.specs.FurtherLines.{BoardFacts}
use Rattle.json_replies.specs.MarkedHints.{IsContradiction, IsMarksHint}
use Rattle.json_replies.specs.declared.start.Start.{Start}

-- the square is empty and has pencil marks, but not that of its number in the solution
abbrev pub IsMissingAt : BoardValue → GridValue → ℕ → Type 0
IsMissingAt b s cell =
    (cell < b.size * b.size) × (number_at (grid_of b) cell ≡ 0) × (marks_at b cell ≢ no_numbers)
    × (has_number (marks_at b cell) (number_at s cell) ≡ false)

-- the square has another number than in the solution, or marks without that number
abbrev pub IsWrongOn : BoardValue → GridValue → ℕ → Type 0
IsWrongOn b s cell = IsWrongAt (grid_of b) s cell ⊎ IsMissingAt b s cell

-- the hint's number is that of the solution
abbrev pub IsNumberOf : GridValue → GridValue → NextHint → Type 0
IsNumberOf s g (Found grade chain) = number_at s (goal_cell g.size chain.goal) ≡ goal_value chain.goal
IsNumberOf s g hint = ⊥

-- Where a solution follows by a grade and the board has an empty square, a hint from the marks is a number of the
-- solution, by steps of that grade or of one below, as long as no number and no mark is wrong, and otherwise it is a
-- contradiction.
abbrev pub MarksLeadOn : {P : Type 0} → GameFacts P → BoardFacts P → Type 0
MarksLeadOn {P} f b =
    (p : P) (grade : Grade) (s : GridValue) (shown : BoardValue) (cell : ℕ) (start : Start) (view : CandidatesValue)
    (hint : NextHint) → let puzzle = f.rules.puzzle p in
    Solves puzzle s → Follows (b.struck_by p) grade s
    → shown.size ≡ s.size → cell < shown.size * shown.size → number_at (grid_of shown) cell ≡ 0
    → IsMarksHint puzzle (b.struck_by p) shown start view hint
    → (((wrong : ℕ) → IsWrongOn shown s wrong → ⊥) → IsExplainedBy grade hint × IsNumberOf s (grid_of shown) hint)
    × ((wrong : ℕ) → IsWrongOn shown s wrong → IsContradiction hint)

-- a number that a hint shows from the marks is by steps of no higher grade than the one without them
abbrev pub MarksAreNoHarder : {P : Type 0} → GameFacts P → BoardFacts P → Type 0
MarksAreNoHarder {P} f b =
    (p : P) (shown : BoardValue) (numbers view : CandidatesValue) (grade most : Grade) (chain other : Chain)
    → let puzzle = f.rules.puzzle p in
    IsView (grid_of shown) numbers → IsBoardView shown view
    → IsHintFrom puzzle (b.struck_by p) (grid_of shown) numbers (Found most other)
    → IsHintFrom puzzle (b.struck_by p) (grid_of shown) view (Found grade chain)
    → rank grade ≤ rank most

-- hints in turn, each of a board with marks that keep the solution; the next board has its number, too, and any marks
abbrev pub AreMarksHintsInTurn : Puzzle → Striking → GridValue → BoardValue → List NextHint → BoardValue → Type 0
AreMarksHintsInTurn p Struck s b [] last = last ≡ b
AreMarksHintsInTurn p Struck s b (hint ∷ hints) last =
    ((cell : ℕ) → IsMissingAt b s cell → ⊥)
    × ((start : Start) × (view : CandidatesValue) × IsMarksHint p Struck b start view hint)
    × ((next : BoardValue) × (grid_of next ≡ with_hinted (grid_of b) hint) × AreMarksHintsInTurn p Struck s next hints last)

-- Where a solution follows by a grade and no number is wrong, the number of a hint from the marks is written in, and
-- that of the next, and so on. If the marks keep the solution each hint is a number, by steps of that grade or of one
-- below, and with as many hints as squares were empty the grid is the solution.
abbrev pub MarksLeadToTheEnd : {P : Type 0} → GameFacts P → BoardFacts P → Type 0
MarksLeadToTheEnd {P} f b =
    (p : P) (grade : Grade) (s : GridValue) (shown last : BoardValue) (hints : List NextHint)
    → Solves (f.rules.puzzle p) s → Follows (b.struck_by p) grade s
    → IsGrid (grid_of shown) → shown.size ≡ s.size → ((wrong : ℕ) → IsWrongAt (grid_of shown) s wrong → ⊥)
    → AreMarksHintsInTurn (f.rules.puzzle p) (b.struck_by p) s shown hints last
    → length hints ≤ empty_count (grid_of shown)
    → AllByRecursion (IsExplainedBy grade) hints × (length hints ≡ empty_count (grid_of shown) → grid_of last ≡ s)
