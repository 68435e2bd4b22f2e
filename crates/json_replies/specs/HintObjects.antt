-- The object of a hint: what it says, what is in view of the grid, and the steps from there, each with its sentence.
use Rattle.std.specs.Prelude.{◌≡◌, ◌≤◌, ℕ, Bool, List, [], ◌∷◌, length, codes, Option, Some, None}
use Rattle.std.specs.List.{range_with_len}
use Rattle.serde_json.specs.Data.{Data, null, string, object, no_members, member}
use Rattle.trail_solver.specs.Candidates.{CandidatesValue, may_be}
use Rattle.named_steps.specs.Chains.{goal_cell, goal_value, IsGoalOf}
use Rattle.named_steps.specs.declared.goal.Goal.{Goal}
use Rattle.named_steps.specs.declared.goal.Goal.TheVariants.{OnlyValue, OnlyPlace}
use Rattle.line_steps.specs.declared.grade.Grade.{Grade}
use Rattle.step_chains.specs.declared.chain.Step.{Step}
use Rattle.step_chains.specs.declared.hints.NextHint.{NextHint}
use Rattle.step_chains.specs.declared.hints.NextHint.TheVariants.{Follows, Refuted, Nothing}
use Rattle.step_texts.specs.declared.dead_ends.DeadEnd.{DeadEnd}
use Rattle.step_texts.specs.declared.dead_ends.DeadEnd.TheVariants.{Square, Line}
use Rattle.step_texts.specs.declared.told.ToldStep.{ToldStep}
use Rattle.step_texts.specs.DeadEnds.{IsDeadEnd}
use Rattle.step_texts.specs.Groups.{AreGroups}
use Rattle.step_texts.specs.Headings.{IsGoalName, IsEndName}
use Rattle.step_texts.specs.Lines.{AreShort}
use Rattle.step_texts.specs.Told.{AreTold}
use Rattle.json_replies.specs.Boards.{listed_data, when, squares}
use Rattle.json_replies.specs.Counts.{count_data}
use Rattle.json_replies.specs.Texts.{text_data, list_data}
use Rattle.json_replies.specs.Steps.{steps_data}
use Rattle.json_replies.specs.declared.start.Start.{Start}
use Rattle.json_replies.specs.declared.start.Start.TheVariants.{Numbers, Marks}
use Rattle.line_steps.specs.Reasons.{Striking}

-- ---- what it says

-- what a hint says, as members of its object, null where it says nothing of that
pub record SaidData : Type 0 where
  pub by : Data
  pub cell : Data
  pub grade : Data
  pub kind : List ℕ
  pub line : Data
  pub name : Data
  pub number : Data

-- by what a goal is shown: the only value left of its square, or the only place in a row or column
abbrev pub by_word : Goal → List ℕ
by_word (OnlyValue cell value) = codes "value"
by_word (OnlyPlace line index value) = codes "line"

-- the row or column of a goal that is the only place in one, or null
abbrev pub goal_line_data : Goal → Data
goal_line_data (OnlyValue cell value) = null
goal_line_data (OnlyPlace line index value) = count_data line

-- the letter of a grade, or null
abbrev pub grade_data : (Grade → List ℕ) → Option Grade → Data
grade_data letter None = null
grade_data letter (Some grade) = string (letter grade)

-- what a hint of a name says that shows a number, of a grid of a width
abbrev pub follows_data : ℕ → List ℕ → List ℕ → Goal → SaidData
follows_data w letter name goal = record {
  by = string (by_word goal);
  cell = count_data (goal_cell w goal);
  grade = string letter;
  kind = codes "follows";
  line = goal_line_data goal;
  name = string name;
  number = count_data (goal_value goal);
}

-- what a contradiction of a name says that ends there: its square, or its row or column and the number without a square
abbrev pub refuted_data : List ℕ → List ℕ → DeadEnd → SaidData
refuted_data letter name (Square cell) = record {
  by = null;
  cell = count_data cell;
  grade = string letter;
  kind = codes "contradiction";
  line = null;
  name = string name;
  number = null;
}
refuted_data letter name (Line line value) = record {
  by = null;
  cell = null;
  grade = string letter;
  kind = codes "contradiction";
  line = count_data line;
  name = string name;
  number = count_data value;
}

-- a hint that says nothing
abbrev pub nothing_data : SaidData
nothing_data =
    record { by = null; cell = null; grade = null; kind = codes "nothing"; line = null; name = null; number = null }

-- what a hint from some candidates says, of a grid of a width, with these letters of grades
abbrev pub IsSaidOf : ℕ → (Grade → List ℕ) → CandidatesValue → NextHint → SaidData → Type 0
IsSaidOf w letter view (Follows grade chain) said =
    (name : List ℕ) × IsGoalName chain.goal name × (said ≡ follows_data w (letter grade) name chain.goal)
IsSaidOf w letter view (Refuted grade refutation) said =
    (end : DeadEnd) × (name : List ℕ) × IsDeadEnd view refutation.steps.items refutation.cell end
    × IsEndName end name × (said ≡ refuted_data (letter grade) name end)
IsSaidOf w letter view Nothing said = said ≡ nothing_data

-- ---- the object

-- from what the steps of a hint begin, as a word
abbrev pub start_word : Start → List ℕ
start_word Numbers = codes "numbers"
start_word (Marks unmarked) = codes "marks"

-- the square whose marks lack its number, or null
abbrev pub unmarked_data : Start → Data
unmarked_data Numbers = null
unmarked_data (Marks None) = null
unmarked_data (Marks (Some cell)) = count_data cell

-- the steps of a hint
abbrev pub steps_in : NextHint → List Step
steps_in (Follows grade chain) = chain.steps.items
steps_in (Refuted grade refutation) = refutation.steps.items
steps_in Nothing = []

-- the numbers that are left of a square, rising
abbrev pub left_data : CandidatesValue → ℕ → Data
left_data c cell = listed_data (λ n. when (may_be c cell n) (count_data n)) (range_with_len 1 c.size)

-- the numbers that are left of each square
abbrev pub view_data : CandidatesValue → Data
view_data c = listed_data (λ cell. left_data c cell ∷ []) (squares c.size)

-- what a hint says, from what its steps begin, how many of them each sentence is of, the steps, all sentences, and what
-- is in view, as one object
abbrev pub hint_data : SaidData → Start → Data → Data → Data → Data → Data
hint_data said start groups steps text view = object
    (member (codes "by") said.by
    (member (codes "cell") said.cell
    (member (codes "from") (string (start_word start))
    (member (codes "grade") said.grade
    (member (codes "groups") groups
    (member (codes "kind") (string said.kind)
    (member (codes "line") said.line
    (member (codes "name") said.name
    (member (codes "number") said.number
    (member (codes "steps") steps
    (member (codes "text") text
    (member (codes "unmarked") (unmarked_data start)
    (member (codes "view") view
    no_members)))))))))))))

-- sentences in short lines, one at least, and none where nothing is said
abbrev pub IsTextOf : NextHint → List (List ℕ) → Type 0
IsTextOf (Follows grade chain) text = AreShort text × (1 ≤ length text)
IsTextOf (Refuted grade refutation) text = AreShort text × (1 ≤ length text)
IsTextOf Nothing text = text ≡ []

-- a hint from some candidates, as an object of a puzzle of a width with these letters, clues and signs: they are its
-- `view`, and its steps are told from them
pub record IsHintValue (w : ℕ) (letter : Grade → List ℕ) (clue : ℕ → ℕ) (is_over : ℕ → ℕ → Bool)
    (Struck : Striking) (start : Start) (view : CandidatesValue) (hint : NextHint) (value : Data) : Type 0 where
  pub steps : List ToldStep
  pub told : AreTold Struck w view (steps_in hint) steps
  pub groups : List ℕ
  pub grouped : AreGroups (length steps) groups
  pub text : List (List ℕ)
  pub lines : IsTextOf hint text
  pub said : SaidData
  pub says : IsSaidOf w letter view hint said
  pub is : value
      ≡ hint_data said start (list_data count_data groups) (steps_data w clue is_over steps)
      (list_data text_data text) (view_data view)

-- the goal of a hint's chain, if the hint has one, is a goal of a grid of the width
abbrev pub IsGoalTold : ℕ → NextHint → Type 0
IsGoalTold w (Follows grade chain) = IsGoalOf w chain.goal
IsGoalTold w (Refuted grade refutation) = Unit {0}
IsGoalTold w Nothing = Unit {0}
