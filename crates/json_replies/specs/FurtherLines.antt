-- The lines beside the commands, and what is told to each.
use Rattle.std.specs.Prelude.{◌≡◌, ◌↔◌, ℕ, Bool, true, false, List, [], ◌∷◌, codes, IsTrue, Option, Some, None, Result, Ok, Err, ok_or}
use Rattle.std.specs.Prelude.{option_map, option_and_then}
use Rattle.std.specs.Option.{option_or}
use Rattle.serde_json.specs.Data.{Data, string, object, put}
use Rattle.latin_board.specs.Boards.{BoardValue, grid_of}
use Rattle.latin_board.specs.Squares.{GridValue}
use Rattle.trail_solver.specs.declared.answer.Answer.{Answer}
use Rattle.trail_solver.specs.declared.answer.Answer.TheVariants.{None as NoSolution, One, Several}
use Rattle.trail_solver.specs.Candidates.{CandidatesValue}
use Rattle.trail_solver.specs.Puzzles.{Puzzle, Solves}
use Rattle.trail_solver.specs.Completions.{Completes}
use Rattle.trail_solver.specs.Answers.{Fits}
use Rattle.play_midend.specs.Histories.{History}
use Rattle.board_checks.specs.Demands.{Demand, IsRepeated}
use Rattle.board_checks.specs.Spots.{IsBrokenAt}
use Rattle.board_checks.specs.Errors.{ErrorsValue, has_repeated, has_broken}
use Rattle.board_checks.specs.declared.spot.Spot.{Spot}
use Rattle.named_steps.specs.Graded.{IsGradeOf}
use Rattle.line_steps.specs.declared.reason.Reason.{Reason}
use Rattle.line_steps.specs.declared.grade.Grade.{Grade}
use Rattle.fair_games.specs.declared.trial.Trial.{Trial}
use Rattle.line_replies.specs.declared.command.line_fault.LineFault.TheVariants.{NoGame}
use Rattle.line_replies.specs.declared.reply.refusal.Refusal.TheVariants.{Line as OfLine}
use Rattle.line_replies.specs.Lines.{Line}
use Rattle.line_replies.specs.GameFacts.{GameFacts}
use Rattle.needed_items.specs.declared.items.Items.{Ghosts as OfItems}
use Rattle.line_replies.specs.Inner.CommandReading.{entry_at, rest_behind}
use Rattle.line_replies.specs.SessionReplies.{shown_board}
use Rattle.json_replies.specs.declared.further_line.FurtherLine.{FurtherLine}
use Rattle.json_replies.specs.declared.further_line.FurtherLine.TheVariants.{Board, Completable, Hint as AskHint, HintMarks, Grade as AskGrade, Solutions, Spare, SpareBy}
use Rattle.json_replies.specs.declared.begin_refusal.BeginRefusal.{BeginRefusal}
use Rattle.json_replies.specs.declared.begin_refusal.BeginRefusal.TheVariants.{BadLetter}
use Rattle.json_replies.specs.declared.listed_items.Listing.TheVariants.{ByAnswer, ByGrade}
use Rattle.json_replies.specs.Boards.{board_data, grid_data}
use Rattle.json_replies.specs.FairLines.{letter_at, one_word_at}
use Rattle.json_replies.specs.ListedItems.{AreItemsListed}
use Rattle.json_replies.specs.Texts.{list_data}
use Rattle.step_chains.specs.declared.hints.NextHint.{NextHint}
use Rattle.json_replies.specs.HintObjects.{IsHintValue, grade_data}
use Rattle.json_replies.specs.MarkedHints.{IsMarksHint}
use Rattle.json_replies.specs.declared.start.Start.{Start}
use Rattle.json_replies.specs.declared.start.Start.TheVariants.{Numbers}
use Rattle.step_chains.specs.NextHints.{IsHint}
use Rattle.json_replies.specs.ObjectLines.{IsLineOfData}
use Rattle.json_replies.specs.Replies.{reply_members, IsAnswerLine, IsReplyLine}
use Rattle.json_replies.specs.Sessions.{game_data}
use Rattle.line_steps.specs.Reasons.{Striking}

-- the lines beside the commands that are always the same, each with its text
abbrev pub further_words : List (List ℕ × FurtherLine)
further_words =
    (codes "board", Board) ∷ (codes "completable", Completable) ∷ (codes "hint", AskHint)
    ∷ (codes "hint marks", HintMarks) ∷ (codes "grade", AskGrade) ∷ (codes "solutions", Solutions)
    ∷ (codes "spare", Spare) ∷ []

-- one of these lines, or why it isn't answered: the word after `spare` is no letter
abbrev pub Further : Type 0
Further = Result FurtherLine BeginRefusal

-- what `spare` and a word ask for: the items by the grade of that letter, or a refusal
abbrev pub spare_at : (Grade → Option ℕ) → List ℕ → Further
spare_at letter word = ok_or (option_map SpareBy (letter_at letter word)) BadLetter

-- which line beside the commands a line is, if any, where the game's grades have these letters
abbrev pub further_at : (Grade → Option ℕ) → Line → Option Further
further_at letter None = None
further_at letter (Some text) =
    option_or (option_map Ok (entry_at further_words text))
    (option_map (spare_at letter) (option_and_then one_word_at (rest_behind (codes "spare ") text)))

-- under which key the answer to a line stands
abbrev pub further_key : FurtherLine → List ℕ
further_key Board = codes "board"
further_key Completable = codes "completable"
further_key AskHint = codes "hint"
further_key HintMarks = codes "hint"
further_key AskGrade = codes "grade"
further_key Solutions = codes "solutions"
further_key Spare = codes "spare"
further_key (SpareBy grade) = codes "spare"

-- whether the key of an answer comes after those of the members that each object has
abbrev pub is_last_key : FurtherLine → Bool
is_last_key Solutions = true
is_last_key Spare = true
is_last_key (SpareBy grade) = true
is_last_key which = false

-- the object of an answer: what each object has and, in its place in the order of keys, the answer
abbrev pub further_data : FurtherLine → Data → Data → Data
further_data which answer session = object (put (further_key which) answer (reply_members None [] session))

-- what these answers know of a game: what it demands at which spots, its clues and signs as data; what its steps
-- strike, the letters of its grades, the clue at a place of the edge, and which signs it has; and of its fair games the
-- letters of their grades, the orders of trial, and the game's initial; and what each item says
pub record BoardFacts (P : Type 0) : Type 1 where
  pub demand : P → Spot → Option Demand
  pub clues : P → BoardValue → ErrorsValue → Data
  pub signs : P → BoardValue → ErrorsValue → Data
  pub struck_by : P → CandidatesValue → Reason → ℕ → ℕ → Type 0
  pub letter : Grade → List ℕ
  pub edge_clue : P → ℕ → ℕ
  pub says_greater : P → ℕ → ℕ → Bool
  pub fair_letter : Grade → Option ℕ
  pub trial : Grade → Trial
  pub initial : ℕ
  pub items : OfItems P

-- the errors are those of the grid: the squares that are repeated, and the spots whose demand is broken
pub record AreErrors (demand : Spot → Option Demand) (g : GridValue) (e : ErrorsValue) : Type 0 where
  pub repeated : (cell : ℕ) → IsTrue (has_repeated e cell) ↔ IsRepeated g cell
  pub broken : (spot : Spot) → IsTrue (has_broken e spot) ↔ IsBrokenAt demand g spot

-- how many solutions keep the numbers, as a word
abbrev pub answer_data : Answer → Data
answer_data NoSolution = string (codes "none")
answer_data (One g) = string (codes "one")
answer_data (Several g h) = string (codes "several")

-- the grids of the solutions that were found
abbrev pub solutions_in : Answer → List GridValue
solutions_in NoSolution = []
solutions_in (One g) = g ∷ []
solutions_in (Several g h) = g ∷ h ∷ []

-- the solutions that were found, as a list of grids
abbrev pub solutions_data : Answer → Data
solutions_data found = list_data grid_data (solutions_in found)

-- the answer tells a hint of the grid, from the candidates from which its steps begin
abbrev pub IsHintAnswer : Puzzle → (Grade → List ℕ) → Striking → (ℕ → ℕ) → (ℕ → ℕ → Bool) → GridValue → Data
    → Type 0
IsHintAnswer p letter Struck clue is_over g answer =
    (hint : NextHint) × (is : IsHint p Struck g hint)
    × IsHintValue p.size letter clue is_over Struck Numbers is.view hint answer

-- the answer tells a hint of the board, from its marks or, if its numbers alone are refuted, from these
abbrev pub IsMarksAnswer : Puzzle → (Grade → List ℕ) → Striking → (ℕ → ℕ) → (ℕ → ℕ → Bool) → BoardValue → Data
    → Type 0
IsMarksAnswer p letter Struck clue is_over b answer =
    (start : Start) × (view : CandidatesValue) × (hint : NextHint) × IsMarksHint p Struck b start view hint
    × IsHintValue p.size letter clue is_over Struck start view hint answer

-- the answer to one of these lines, of a puzzle and the board that is shown
abbrev pub IsAnswer : {P : Type 0} → GameFacts P → BoardFacts P → P → BoardValue → FurtherLine → Data → Type 0
IsAnswer f b p shown Board answer =
    (e : ErrorsValue) × AreErrors (b.demand p) (grid_of shown) e
    × (answer ≡ board_data (f.rules.puzzle p) shown e (b.clues p shown e) (b.signs p shown e))
IsAnswer f b p shown Completable answer =
    (found : Answer) × Fits (Completes (f.rules.puzzle p) (grid_of shown)) found × (answer ≡ answer_data found)
IsAnswer f b p shown AskHint answer =
    IsHintAnswer (f.rules.puzzle p) b.letter (b.struck_by p) (b.edge_clue p) (b.says_greater p) (grid_of shown) answer
IsAnswer f b p shown HintMarks answer =
    IsMarksAnswer (f.rules.puzzle p) b.letter (b.struck_by p) (b.edge_clue p) (b.says_greater p) shown answer
IsAnswer f b p shown AskGrade answer =
    (grade : Option Grade) × IsGradeOf (f.rules.puzzle p) (b.struck_by p) grade × (answer ≡ grade_data b.letter grade)
IsAnswer f b p shown Solutions answer =
    (found : Answer) × Fits (Completes (f.rules.puzzle p) (grid_of shown)) found × (answer ≡ solutions_data found)
IsAnswer f b p shown Spare answer =
    (found : Answer) × Fits (Solves (f.rules.puzzle p)) found
    × AreItemsListed f.rules b.struck_by b.items (b.says_greater p) p (ByAnswer found) answer
IsAnswer f b p shown (SpareBy grade) answer =
    AreItemsListed f.rules b.struck_by b.items (b.says_greater p) p (ByGrade grade) answer

-- the line of the object: NoGame where there is no session, then why it isn't answered, otherwise the answer beside what
-- each object has
abbrev pub IsFurtherLine : {P : Type 0} → GameFacts P → BoardFacts P → Further → Option (History P) → List ℕ → Type 0
IsFurtherLine f b asked None bytes = IsReplyLine f (Err (OfLine NoGame)) None bytes
IsFurtherLine f b (Err refusal) (Some h) bytes = IsAnswerLine f (Err refusal) (Some h) bytes
IsFurtherLine f b (Ok which) (Some h) bytes =
    (answer : Data) × IsAnswer f b h.puzzle (shown_board f h) which answer
    × IsLineOfData (further_data which answer (game_data f h)) bytes
