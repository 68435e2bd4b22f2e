-- The data that tell a session can be written.
use Rattle.std.proofs.Common.{ℕ, suc, ◌*◌, Bool, if◌then◌else◌, nat_lt, [], ◌∷◌, Option, Some, None, refl, sym, subst}
use Rattle.std.specs.List.{range_with_len}
use Rattle.latin_board.specs.Squares.{GridValue, number_at}
use Rattle.latin_board.specs.Boards.{BoardValue, grid_of, marks_at}
use Rattle.latin_board.specs.Edges.{edge_xy}
use Rattle.trail_solver.specs.Puzzles.{Puzzle}
use Rattle.trail_solver.specs.declared.answer.Answer.{Answer}
use Rattle.trail_solver.specs.declared.answer.Answer.TheVariants.{None as NoSolution, One, Several}
use Rattle.serde_json.specs.Data.{Data}
use Rattle.needed_items.specs.declared.items.Items.{Ghosts as OfItems}
use Rattle.play_midend.specs.Histories.{History}
use Rattle.board_checks.specs.Errors.{ErrorsValue, has_repeated}
use Rattle.line_replies.specs.GameFacts.{GameFacts}
use Rattle.json_replies.specs.declared.further_line.FurtherLine.{FurtherLine}
use Rattle.json_replies.specs.declared.further_line.FurtherLine.TheVariants.{Board, Completable, Hint as AskHint, HintMarks, Grade as AskGrade, Solutions, Spare, SpareBy}
use Rattle.json_replies.specs.Boards.{squares, grid_data, givens_data, mark_set_data, marks_data, repeats_data, board_data}
use Rattle.json_replies.specs.Counts.{count_data}
use Rattle.json_replies.specs.FurtherLines.{BoardFacts, IsAnswer, answer_data, solutions_data, solutions_in}
use Rattle.json_replies.specs.ListedItems.{place_data, ends_data, when_listed, sign_data, clues_listed, givens_listed, signs_listed, items_data}
use Rattle.json_replies.specs.ObjectLines.{IsShallow}
use Rattle.json_replies.specs.Sessions.{session_data}
use Rattle.json_replies.specs.declared.start.Start.TheVariants.{Numbers}
use Rattle.json_replies.specs.Laws.Spellings.{AllFit, all_append, either, integer_whole, list_fits, listed_fits, when_fits, deeper}
use Rattle.json_replies.proofs.HintSpellings.{numbers_fit, set_fits, hint_value_fits, grade_fits}

-- what is told of a session can be written
pub session_fits : {P : Type 0} (f : GameFacts P) (session : Option (History P)) → IsShallow 7 (session_data f session)
session_fits f None = tt
session_fits f (Some h) = (tt, (tt, (refl, (refl, (tt, tt)))))

-- ---- the board

grid_fits : (n : ℕ) (g : GridValue) → IsShallow (suc n) (grid_data g)
grid_fits n g = listed_fits n (λ cell. count_data (number_at g cell) ∷ []) (λ cell. (refl, tt)) (squares g.size)

givens_fit : (n : ℕ) (p : Puzzle) → IsShallow (suc n) (givens_data p)
givens_fit n p = listed_fits n (λ cell. count_data (p.given cell) ∷ []) (λ cell. (refl, tt)) (squares p.size)

marks_fit : (n : ℕ) (b : BoardValue) → IsShallow (suc (suc n)) (marks_data b)
marks_fit n b =
    listed_fits (suc n) (λ cell. mark_set_data (marks_at b cell) ∷ []) (λ cell. (set_fits n (marks_at b cell), tt))
    (squares b.size)

repeats_fit : (n w : ℕ) (e : ErrorsValue) → IsShallow (suc n) (repeats_data w e)
repeats_fit n w e = numbers_fit n (has_repeated e) (squares w)

-- clues and signs have more room than they need
in_board : (d : Data) → IsShallow 2 d → IsShallow 6 d
in_board d fit = deeper 5 d (deeper 4 d (deeper 3 d (deeper 2 d fit)))

board_fits : (p : Puzzle) (b : BoardValue) (e : ErrorsValue) (clues signs : Data) → IsShallow 2 clues
    → IsShallow 2 signs
    → IsShallow 7 (board_data p b e clues signs)
board_fits p b e clues signs clues_fit signs_fit =
    let repeats = repeats_fit 5 b.size e in
    let givens = givens_fit 5 p in
    let marks = marks_fit 4 b in
    let numbers = grid_fits 5 (grid_of b) in
    let first = in_board clues clues_fit in
    let last = in_board signs signs_fit in
    (tt, (first, (tt, (repeats, (givens, (marks, (numbers, (last, (refl, tt)))))))))

-- ---- solutions and items

solutions_fit : (found : Answer) → IsShallow 7 (solutions_data found)
solutions_fit found = list_fits 6 grid_data (grid_fits 5) (solutions_in found)

listed_one_fits : (n : ℕ) (listed : ℕ → Bool) (item : Option ℕ) (d : Data) → IsShallow n d → AllFit n (when_listed listed item d)
listed_one_fits n listed None d fit = tt
listed_one_fits n listed (Some i) d fit = when_fits n (listed i) d fit

sign_fits : {P : Type 0} (items : OfItems P) (is_over : ℕ → ℕ → Bool) (w : ℕ) (listed : ℕ → Bool) (a b : ℕ)
    → AllFit 5 (sign_data items is_over w listed a b)
sign_fits items is_over w listed a b =
    let ends : Data = if is_over a b then ends_data a b else ends_data b a in
    let fit : IsShallow 5 ends =
    either (IsShallow 5) (is_over a b) (ends_data a b) (ends_data b a) (refl, (refl, tt)) (refl, (refl, tt)) in
    either (AllFit 5) (nat_lt b (w * w)) (when_listed listed (items.sign_item_of w a b) ends) []
    (listed_one_fits 5 listed (items.sign_item_of w a b) ends fit) tt

items_fit : {P : Type 0} (items : OfItems P) (is_over : ℕ → ℕ → Bool) (w : ℕ) (listed : ℕ → Bool)
    → IsShallow 7 (items_data items is_over w listed)
items_fit items is_over w listed =
    let clues : IsShallow 6 (clues_listed items w listed) =
    listed_fits 5 _ (λ place. listed_one_fits 5 listed (items.clue_item_of w place) (place_data w place)
    (integer_whole (edge_xy w place).0, (integer_whole (edge_xy w place).1, tt))) (range_with_len 0 (4 * w)) in
    let givens : IsShallow 6 (givens_listed items w listed) =
    listed_fits 5 _ (λ cell. when_fits 5 (listed (items.given_item_of w cell)) (count_data cell) refl) (squares w) in
    let signs : IsShallow 6 (signs_listed items is_over w listed) =
    listed_fits 5 _ (λ cell. all_append 5 _ _ (sign_fits items is_over w listed cell _)
    (sign_fits items is_over w listed cell _))
    (squares w) in
    (clues, (givens, (signs, tt)))

answer_fits : (found : Answer) → IsShallow 7 (answer_data found)
answer_fits NoSolution = tt
answer_fits (One g) = tt
answer_fits (Several g h) = tt

-- what the game tells of its clues and signs can be written
pub record ListsFit {P : Type 0} (b : BoardFacts P) : Type 0 where
  pub clues : (p : P) (shown : BoardValue) (e : ErrorsValue) → IsShallow 2 (b.clues p shown e)
  pub signs : (p : P) (shown : BoardValue) (e : ErrorsValue) → IsShallow 2 (b.signs p shown e)

-- the answer to a line beside the commands can be written
pub told_fits : {P : Type 0} (f : GameFacts P) (b : BoardFacts P) → ListsFit b
    → (p : P) (shown : BoardValue) (which : FurtherLine) (answer : Data)
    → IsAnswer f b p shown which answer → IsShallow 7 answer
told_fits f b fit p shown Board answer (e, are, is) =
    subst (IsShallow 7) (sym is)
    (board_fits (f.rules.puzzle p) shown e (b.clues p shown e) (b.signs p shown e) (fit.clues p shown e)
    (fit.signs p shown e))
told_fits f b fit p shown Completable answer (found, fits, is) = subst (IsShallow 7) (sym is) (answer_fits found)
told_fits f b fit p shown AskHint answer (hint, so, value) =
    hint_value_fits (f.rules.puzzle p).size b.letter (b.edge_clue p) (b.says_greater p) (b.struck_by p) Numbers
    so.view hint answer value
told_fits f b fit p shown HintMarks answer (start, view, hint, so, value) =
    hint_value_fits (f.rules.puzzle p).size b.letter (b.edge_clue p) (b.says_greater p) (b.struck_by p) start
    view hint answer value
told_fits f b fit p shown AskGrade answer (grade, least, is) = subst (IsShallow 7) (sym is)
    (grade_fits 7 b.letter grade)
told_fits f b fit p shown Solutions answer (found, fits, is) = subst (IsShallow 7) (sym is) (solutions_fit found)
told_fits f b fit p shown Spare answer (found, fits, (listed, each, is)) =
    subst (IsShallow 7) (sym is) (items_fit b.items (b.says_greater p) (f.rules.puzzle p).size listed)
told_fits f b fit p shown (SpareBy grade) answer (listed, each, is) =
    subst (IsShallow 7) (sym is) (items_fit b.items (b.says_greater p) (f.rules.puzzle p).size listed)
