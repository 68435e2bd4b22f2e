-- Laws of fair games: which session a line `fair` begins, and that hints lead on in a puzzle that follows by a grade.
use Rattle.std.specs.Prelude.{◌≡◌, ◌≢◌, ◌⊎◌, ℕ, ◌*◌, ◌<◌, ◌≤◌, ◌==◌, List, [], ◌∷◌, length, slice_set, count_by, Option, Ok}
use Rattle.std.specs.List.{AllByRecursion}
use Rattle.std.specs.Option.{IsSomeAnd}
use Rattle.latin_board.specs.Squares.{GridValue, IsGrid, number_at}
use Rattle.trail_solver.specs.Puzzles.{Puzzle, Solves}
use Rattle.trail_solver.specs.Solutions.{IsOnlySolution}
use Rattle.play_midend.specs.Histories.{History}
use Rattle.named_steps.specs.Chains.{goal_cell, goal_value}
use Rattle.named_steps.specs.Following.{Follows}
use Rattle.line_steps.specs.declared.grade.Grade.{Grade}
use Rattle.line_steps.specs.Reasons.{Striking}
use Rattle.step_chains.specs.declared.hints.NextHint.{NextHint}
use Rattle.step_chains.specs.declared.hints.NextHint.TheVariants.{Follows as Found, Refuted, Nothing}
use Rattle.step_chains.specs.NextHints.{IsHint}
use Rattle.line_steps.specs.Grades.{rank}
use Rattle.fair_games.specs.FairGames.{IsOfGrade}
use Rattle.line_replies.specs.Lines.{Line}
use Rattle.line_replies.specs.GameFacts.{GameFacts}
use Rattle.line_replies.specs.NewSessions.{new_game}
use Rattle.json_replies.specs.declared.fair_words.FairWords.{FairWords}
use Rattle.json_replies.specs.declared.fair_request.FairRequest.{FairRequest}
use Rattle.json_replies.specs.FairLines.{IsFairLine, IsAsked}
use Rattle.json_replies.specs.FairReplies.{fair_params, IsGameOfRequest}
use Rattle.json_replies.specs.FurtherLines.{BoardFacts}
use Rattle.json_replies.specs.JsonReplies.{JsonReply}
use Rattle.json_replies.specs.MarkedHints.{IsContradiction}

-- a new session of the fair game of a request: its puzzle has one solution, which follows by the grade, and not by the
-- one below
pub record IsFairStart {P : Type 0} (f : GameFacts P) (b : BoardFacts P) (r : FairRequest)
    (h : History P) : Type 0 where
  pub fair : IsGameOfRequest f b r h.puzzle
  pub start : h ≡ new_game (fair_params b r) h.puzzle
  pub solution : GridValue
  pub only : IsOnlySolution (f.rules.puzzle h.puzzle) solution
  pub follows : Follows (b.struck_by h.puzzle) r.grade solution
  pub graded : IsOfGrade f.rules b.struck_by r.grade h.puzzle

-- `fair` and three words leave the session, or begin that of the game that they ask for
abbrev pub FairLinesBegin : {P : Type 0} → GameFacts P → BoardFacts P → Type 0
FairLinesBegin {P} f b =
    (old new : Option (History P)) (line : Line) (words : FairWords (List ℕ)) (bytes : List ℕ) → IsFairLine words line
    → JsonReply f b old line bytes new
    → (new ≡ old) ⊎ ((r : FairRequest) × IsAsked b.fair_letter words (Ok r) × IsSomeAnd new (IsFairStart f b r))

-- ---- hints

-- the hint is a number that steps explain, of this grade at most
abbrev pub IsExplainedBy : Grade → NextHint → Type 0
IsExplainedBy most (Found grade chain) = rank grade ≤ rank most
IsExplainedBy most (Refuted grade refutation) = ⊥
IsExplainedBy most Nothing = ⊥

-- the square has a number in the grid, and another one than in the solution
abbrev pub IsWrongAt : GridValue → GridValue → ℕ → Type 0
IsWrongAt g s cell = (cell < g.size * g.size) × (number_at g cell ≢ 0) × (number_at g cell ≢ number_at s cell)

-- Where a solution follows by a grade and the grid has an empty square, steps of that grade or of one below explain a
-- number as long as no square is wrong, and otherwise it is a contradiction.
abbrev pub HintsLeadOn : {P : Type 0} → GameFacts P → BoardFacts P → Type 0
HintsLeadOn {P} f b =
    (p : P) (grade : Grade) (s g : GridValue) (cell : ℕ) (hint : NextHint)
    → Solves (f.rules.puzzle p) s → Follows (b.struck_by p) grade s
    → g.size ≡ s.size → cell < g.size * g.size → number_at g cell ≡ 0
    → IsHint (f.rules.puzzle p) (b.struck_by p) g hint
    → (((wrong : ℕ) → IsWrongAt g s wrong → ⊥) → IsExplainedBy grade hint)
    × ((wrong : ℕ) → IsWrongAt g s wrong → IsContradiction hint)

-- the grid with the hint's number in its square
abbrev pub with_hinted : GridValue → NextHint → GridValue
with_hinted g (Found grade chain) =
    record { size = g.size; numbers = slice_set g.numbers (goal_cell g.size chain.goal) (goal_value chain.goal) }
with_hinted g _ = g

-- hints in turn, each of the grid with the numbers of those before it; and the grid in the end
abbrev pub AreHintsInTurn : Puzzle → Striking → GridValue → List NextHint → GridValue → Type 0
AreHintsInTurn p Struck g [] last = last ≡ g
AreHintsInTurn p Struck g (hint ∷ hints) last =
    IsHint p Struck g hint × AreHintsInTurn p Struck (with_hinted g hint) hints last

-- how many squares are empty
abbrev pub empty_count : GridValue → ℕ
empty_count g = count_by (λ n. n == 0) g.numbers

-- Where a solution follows by a grade and no square of the grid is wrong, the number of a hint is written in, and that
-- of the next, and so on: as long as there is an empty square each hint is a number, by steps of that grade or of one
-- below, and with as many hints as squares were empty the grid is the solution.
abbrev pub HintsLeadToTheEnd : {P : Type 0} → GameFacts P → BoardFacts P → Type 0
HintsLeadToTheEnd {P} f b =
    (p : P) (grade : Grade) (s g last : GridValue) (hints : List NextHint)
    → Solves (f.rules.puzzle p) s → Follows (b.struck_by p) grade s
    → IsGrid g → g.size ≡ s.size → ((wrong : ℕ) → IsWrongAt g s wrong → ⊥)
    → AreHintsInTurn (f.rules.puzzle p) (b.struck_by p) g hints last → length hints ≤ empty_count g
    → AllByRecursion (IsExplainedBy grade) hints × (length hints ≡ empty_count g → last ≡ s)
