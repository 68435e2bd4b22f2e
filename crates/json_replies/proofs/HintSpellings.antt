-- The data that tell a hint can be written.
use Rattle.std.proofs.Common.{ℕ, suc, ◌*◌, Bool, ◌&&◌, nat_lt, List, [], ◌∷◌, Option, Some, None, refl, sym, subst}
use Rattle.std.specs.Prelude.{slice_index}
use Rattle.std.specs.List.{range_with_len}
use Rattle.number_sets.specs.Sets.{has_number}
use Rattle.latin_board.specs.Edges.{edge_xy}
use Rattle.latin_board.specs.Lines.{line_cell}
use Rattle.trail_solver.specs.Candidates.{CandidatesValue, may_be}
use Rattle.serde_json.specs.Data.{Data, null}
use Rattle.line_steps.specs.declared.reason.Reason.{Reason}
use Rattle.line_steps.specs.declared.reason.Reason.TheVariants.{Given, Peer, Place, Bound, Stand, Clue, Sign, Set}
use Rattle.named_steps.specs.declared.goal.Goal.{Goal}
use Rattle.named_steps.specs.declared.goal.Goal.TheVariants.{OnlyValue, OnlyPlace}
use Rattle.line_steps.specs.declared.grade.Grade.{Grade}
use Rattle.line_steps.specs.Reasons.{Striking}
use Rattle.step_chains.specs.declared.hints.NextHint.{NextHint}
use Rattle.step_chains.specs.declared.hints.NextHint.TheVariants.{Follows, Refuted, Nothing}
use Rattle.step_texts.specs.declared.told.KnownSquare.{KnownSquare}
use Rattle.step_texts.specs.declared.told.SignEnd.{SignEnd}
use Rattle.step_texts.specs.declared.told.SignEnd.TheVariants.{AtLeast, AtMost}
use Rattle.step_texts.specs.declared.told.Strike.{Strike}
use Rattle.step_texts.specs.declared.told.ToldStep.{ToldStep}
use Rattle.step_texts.specs.declared.told.Seen.{Seen}
use Rattle.step_texts.specs.declared.told.Seen.TheVariants.{Fewer, More, Open}
use Rattle.step_texts.specs.declared.told.TowerSquare.{TowerSquare}
use Rattle.step_texts.specs.Lines.{line_texts}
use Rattle.json_replies.specs.declared.reason_parts.Ends.{Ends}
use Rattle.json_replies.specs.Counts.{count_data}
use Rattle.json_replies.specs.Texts.{text_data}
use Rattle.json_replies.specs.Boards.{listed_data, when, mark_set_data, squares}
use Rattle.json_replies.specs.ObjectLines.{IsShallow}
use Rattle.json_replies.specs.Reasons.{ReasonParts, one_data, line_cells_data, parts_of}
use Rattle.json_replies.specs.Steps.{x_data, y_data, edge_clue_data, greater_data, less_data, known_data, least_data, most_data, seen_data, shows_data, strike_data, step_data, tower_data}
use Rattle.json_replies.specs.HintObjects.{SaidData, goal_line_data, grade_data, refuted_data, left_data, unmarked_data, IsSaidOf, IsHintValue}
use Rattle.step_texts.specs.declared.dead_ends.DeadEnd.{DeadEnd}
use Rattle.step_texts.specs.declared.dead_ends.DeadEnd.TheVariants.{Square, Line}
use Rattle.json_replies.specs.declared.start.Start.{Start}
use Rattle.json_replies.specs.declared.start.Start.TheVariants.{Numbers, Marks}
use Rattle.json_replies.specs.Laws.Spellings.{either, integer_whole, list_fits, listed_fits, when_fits}

-- the list of the numbers that pass a test can be written
pub numbers_fit : (n : ℕ) (test : ℕ → Bool) (ks : List ℕ)
    → IsShallow (suc n) (listed_data (λ k. when (test k) (count_data k)) ks)
numbers_fit n test ks =
    listed_fits n (λ k. when (test k) (count_data k)) (λ k. when_fits n (test k) (count_data k) refl) ks

-- a set of numbers can be written
pub set_fits : (n marks : ℕ) → IsShallow (suc n) (mark_set_data marks)
set_fits n marks = numbers_fit n (has_number marks) (range_with_len 1 9)

-- ---- a step

-- the line, squares and numbers of a reason's parts can be written
record PartsFit (parts : ReasonParts) : Type 0 where
  line : IsShallow 4 parts.line
  cells : IsShallow 4 parts.cells
  numbers : IsShallow 4 parts.numbers

cells_fit : (w line places : ℕ) → IsShallow 4 (line_cells_data w line places)
cells_fit w line places =
    listed_fits 3 (λ k. when (has_number places k) (count_data (line_cell w line k)))
    (λ k. when_fits 3 (has_number places k) (count_data (line_cell w line k)) refl) (range_with_len 0 w)

-- the parts of each reason can be written
parts_fit : (w : ℕ) (is_over : ℕ → ℕ → Bool) (reason : Reason) → PartsFit (parts_of w is_over reason)
parts_fit w is_over (Given cell) = record { line = tt; cells = (refl, tt); numbers = tt }
parts_fit w is_over (Peer cell) = record { line = tt; cells = (refl, tt); numbers = tt }
parts_fit w is_over (Place line index value) = record {
  line = refl;
  cells = either (IsShallow 4) (nat_lt line (2 * w) && nat_lt index w) (one_data (line_cell w line index)) null
      (refl, tt) tt;
  numbers = (refl, tt);
}
parts_fit w is_over (Bound place) = record { line = tt; cells = tt; numbers = tt }
parts_fit w is_over (Stand place) = record { line = tt; cells = tt; numbers = tt }
parts_fit w is_over (Clue place) = record { line = tt; cells = tt; numbers = tt }
parts_fit w is_over (Sign from to) = record { line = tt; cells = tt; numbers = tt }
parts_fit w is_over (Set line squares values) = record {
  line = refl;
  cells = either (IsShallow 4) (nat_lt line (2 * w)) (line_cells_data w line squares) null
      (cells_fit w line squares) tt;
  numbers = set_fits 3 values;
}

x_fits : (w : ℕ) (edge : Option ℕ) → IsShallow 4 (x_data w edge)
x_fits w None = tt
x_fits w (Some place) = integer_whole (edge_xy w place).0

y_fits : (w : ℕ) (edge : Option ℕ) → IsShallow 4 (y_data w edge)
y_fits w None = tt
y_fits w (Some place) = integer_whole (edge_xy w place).1

clue_fits : (clue : ℕ → ℕ) (edge : Option ℕ) → IsShallow 4 (edge_clue_data clue edge)
clue_fits clue None = tt
clue_fits clue (Some place) = refl

greater_fits : (ends : Option Ends) → IsShallow 4 (greater_data ends)
greater_fits None = tt
greater_fits (Some ends) = refl

less_fits : (ends : Option Ends) → IsShallow 4 (less_data ends)
less_fits None = tt
less_fits (Some ends) = refl

shows_fit : (values : ℕ) (shows : Option (List ℕ)) → IsShallow 2 (shows_data values shows)
shows_fit values None = tt
shows_fit values (Some shows) =
    listed_fits 1 (λ n. when (has_number values n) (mark_set_data (slice_index shows n)))
    (λ n. when_fits 1 (has_number values n) (mark_set_data (slice_index shows n)) (set_fits 0 (slice_index shows n)))
    (range_with_len 1 9)

-- what is struck in a square can be written
strike_fits : (strike : Strike) → IsShallow 3 (strike_data strike)
strike_fits strike = (refl, (set_fits 1 strike.values, (shows_fit strike.values strike.shows, tt)))

least_fits : (alone : Bool) (end : Option SignEnd) → IsShallow 4 (least_data alone end)
least_fits alone None = tt
least_fits alone (Some (AtLeast n)) = refl
least_fits alone (Some (AtMost n)) = either (IsShallow 4) alone (count_data n) null refl tt

most_fits : (alone : Bool) (end : Option SignEnd) → IsShallow 4 (most_data alone end)
most_fits alone None = tt
most_fits alone (Some (AtLeast n)) = either (IsShallow 4) alone (count_data n) null refl tt
most_fits alone (Some (AtMost n)) = refl

-- a known square can be written
known_fits : (square : KnownSquare) → IsShallow 3 (known_data square)
known_fits square = (refl, (set_fits 1 square.numbers, tt))

seen_fits : (seen : Seen) → IsShallow 2 (seen_data seen)
seen_fits Fewer = tt
seen_fits More = tt
seen_fits Open = tt

-- a square of which it is told whether a tall tower is there can be written
tower_fits : (tower : TowerSquare) → IsShallow 3 (tower_data tower)
tower_fits tower = (refl, (refl, (tt, (seen_fits tower.seen, tt))))

-- a step can be written
step_fits : (w : ℕ) (clue : ℕ → ℕ) (is_over : ℕ → ℕ → Bool) (told : ToldStep) → IsShallow 5 (step_data w clue is_over told)
step_fits w clue is_over told =
    let parts = parts_of w is_over told.reason in
    let fit = parts_fit w is_over told.reason in
    let strikes = list_fits 3 strike_data strike_fits told.strikes.items in
    let known = list_fits 3 known_data known_fits told.known.items in
    let split = list_fits 3 tower_data tower_fits told.towers.items in
    let text = list_fits 3 text_data (λ line. tt) (line_texts told.text.items) in
    let edge = clue_fits clue parts.edge in
    let more = greater_fits parts.ends in
    let less = less_fits parts.ends in
    let least = least_fits told.is_alone told.end in
    let most = most_fits told.is_alone told.end in
    let x = x_fits w parts.edge in
    let y = y_fits w parts.edge in
    (fit.cells, (edge, (more, (known, (least, (less, (fit.line, (most, (tt, (fit.numbers, (tt, (split, (strikes, (text, (x, (y, tt))))))))))))))))

-- ---- a hint

left_fits : (c : CandidatesValue) (cell : ℕ) → IsShallow 5 (left_data c cell)
left_fits c cell = numbers_fit 4 (may_be c cell) (range_with_len 1 c.size)

goal_line_fits : (goal : Goal) → IsShallow 6 (goal_line_data goal)
goal_line_fits (OnlyValue cell value) = tt
goal_line_fits (OnlyPlace line index value) = refl

pub grade_fits : (n : ℕ) (letter : Grade → List ℕ) (grade : Option Grade) → IsShallow n (grade_data letter grade)
grade_fits n letter None = tt
grade_fits n letter (Some grade) = tt

-- each member of what a hint says can be written
record SaidFits (said : SaidData) : Type 0 where
  by : IsShallow 6 said.by
  cell : IsShallow 6 said.cell
  grade : IsShallow 6 said.grade
  line : IsShallow 6 said.line
  name : IsShallow 6 said.name
  number : IsShallow 6 said.number

refuted_fits : (letter name : List ℕ) (end : DeadEnd) → SaidFits (refuted_data letter name end)
refuted_fits letter name (Square cell) = record { by = tt; cell = refl; grade = tt; line = tt; name = tt; number = tt }
refuted_fits letter name (Line line value) = record { by = tt; cell = tt; grade = tt; line = refl; name = tt; number = refl }

said_fits : (w : ℕ) (letter : Grade → List ℕ) (view : CandidatesValue) (hint : NextHint) (said : SaidData)
    → IsSaidOf w letter view hint said → SaidFits said
said_fits w letter view (Follows grade chain) said (name, named, is) =
    subst SaidFits (sym is)
    (record { by = tt; cell = refl; grade = tt; line = goal_line_fits chain.goal; name = tt; number = refl })
said_fits w letter view (Refuted grade refutation) said (end, name, ends, named, is) =
    subst SaidFits (sym is) (refuted_fits (letter grade) name end)
said_fits w letter view Nothing said says =
    subst SaidFits (sym says) (record { by = tt; cell = tt; grade = tt; line = tt; name = tt; number = tt })

-- the square whose marks lack its number can be written
unmarked_fits : (start : Start) → IsShallow 6 (unmarked_data start)
unmarked_fits Numbers = tt
unmarked_fits (Marks None) = tt
unmarked_fits (Marks (Some cell)) = refl

-- all that is told of a hint can be written
pub hint_value_fits : (w : ℕ) (letter : Grade → List ℕ) (clue : ℕ → ℕ) (is_over : ℕ → ℕ → Bool) (Struck : Striking)
    (start : Start) (view : CandidatesValue) (hint : NextHint) (value : Data)
    → IsHintValue w letter clue is_over Struck start view hint value → IsShallow 7 value
hint_value_fits w letter clue is_over Struck start view hint value told =
    let said = said_fits w letter view hint told.said told.says in
    let groups = list_fits 5 count_data (λ n. refl) told.groups in
    let steps = list_fits 5 (step_data w clue is_over) (step_fits w clue is_over) told.steps in
    let text = list_fits 5 text_data (λ line. tt) told.text in
    let seen = listed_fits 5 (λ cell. left_data view cell ∷ []) (λ cell. (left_fits view cell, tt))
    (squares view.size) in
    subst (IsShallow 7) (sym told.is) (
      said.by,
      (
        said.cell,
        (
          tt,
          (
            said.grade,
            (
              groups,
              (
                tt,
                (
                  said.line,
                  (
                    said.name,
                    (
                      said.number,
                      (steps, (text, (unmarked_fits start, (seen, tt)))),
                    ),
                  ),
                ),
              ),
            ),
          ),
        ),
      ),
    )
