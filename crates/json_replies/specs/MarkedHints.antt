-- Hints of a board whose steps begin from its pencil marks.
use Rattle.std.specs.Prelude.{◌≡◌, ℕ, ◌*◌, ◌<◌, true, false, Option, Some, None}
use Rattle.latin_board.specs.Boards.{BoardValue, grid_of}
use Rattle.latin_board.specs.Squares.{GridValue, number_at}
use Rattle.trail_solver.specs.declared.answer.Answer.{Answer}
use Rattle.trail_solver.specs.declared.answer.Answer.TheVariants.{None as NoSolution, One, Several}
use Rattle.trail_solver.specs.Answers.{Fits}
use Rattle.trail_solver.specs.Candidates.{CandidatesValue, IsWithin, may_be}
use Rattle.trail_solver.specs.Completions.{Completes}
use Rattle.trail_solver.specs.Puzzles.{Puzzle}
use Rattle.named_steps.specs.Chains.{IsView}
use Rattle.named_steps.specs.Following.{IsRefuted}
use Rattle.line_steps.specs.Reasons.{Striking}
use Rattle.line_steps.specs.declared.grade.Grade.TheVariants.{Hard}
use Rattle.step_chains.specs.BoardViews.{IsBoardView}
use Rattle.step_chains.specs.NextHints.{IsHintFrom}
use Rattle.step_chains.specs.declared.hints.NextHint.{NextHint}
use Rattle.step_chains.specs.declared.hints.NextHint.TheVariants.{Follows, Refuted, Nothing}
use Rattle.json_replies.specs.declared.start.Start.{Start}
use Rattle.json_replies.specs.declared.start.Start.TheVariants.{Numbers, Marks}

-- the hint is that the numbers or the marks contradict one another
abbrev pub IsContradiction : NextHint → Type 0
IsContradiction (Follows grade chain) = ⊥
IsContradiction (Refuted grade refutation) = Unit {0}
IsContradiction Nothing = ⊥

-- the first square whose number in the grid isn't among the candidates, if there is one
abbrev pub IsFirstLacking : CandidatesValue → GridValue → Option ℕ → Type 0
IsFirstLacking c s None = IsWithin c s
IsFirstLacking c s (Some cell) =
    (cell < c.size * c.size) × (may_be c cell (number_at s cell) ≡ false)
    × ((earlier : ℕ) → earlier < cell → may_be c earlier (number_at s earlier) ≡ true)

-- the first square whose number in the only solution isn't among the candidates; none without such a solution
abbrev pub IsLackingOf : CandidatesValue → Answer → Option ℕ → Type 0
IsLackingOf c NoSolution unmarked = unmarked ≡ None
IsLackingOf c (One s) unmarked = IsFirstLacking c s unmarked
IsLackingOf c (Several s other) unmarked = unmarked ≡ None

-- the numbers of the grid alone are not refuted
abbrev pub AreNotRefuted : Striking → GridValue → Type 0
AreNotRefuted Struck g = (numbers : CandidatesValue) × IsView g numbers × (IsRefuted Struck Hard numbers → ⊥)

-- what a hint from the marks of a board tells of a missing mark: only if it refutes the marks, and the numbers alone
-- aren't refuted, the first square whose number, in the only solution that keeps the board's, isn't marked
abbrev pub IsToldOfMarks : Puzzle → Striking → GridValue → CandidatesValue → NextHint → Option ℕ → Type 0
IsToldOfMarks p Struck g view (Follows grade chain) unmarked = unmarked ≡ None
IsToldOfMarks p Struck g view (Refuted grade refutation) unmarked =
    AreNotRefuted Struck g
    × ((found : Answer) × Fits (Completes p g) found × IsLackingOf view found unmarked)
IsToldOfMarks p Struck g view Nothing unmarked = unmarked ≡ None

-- the hint of a board from its marks, and where its steps begin: if the numbers alone are refuted the hint is that
-- contradiction, and otherwise it is one from the marks
abbrev pub IsMarksHint : Puzzle → Striking → BoardValue → Start → CandidatesValue → NextHint → Type 0
IsMarksHint p Struck b Numbers view hint =
    IsView (grid_of b) view × IsHintFrom p Struck (grid_of b) view hint × IsContradiction hint
IsMarksHint p Struck b (Marks unmarked) view hint =
    IsBoardView b view × IsHintFrom p Struck (grid_of b) view hint × IsToldOfMarks p Struck (grid_of b) view hint unmarked
