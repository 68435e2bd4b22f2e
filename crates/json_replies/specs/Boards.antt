-- The data that tell the board that is shown.
use Rattle.std.specs.Prelude.{ℕ, ◌*◌, List, [], ◌∷◌, Bool, codes, if◌then◌else◌}
use Rattle.std.specs.List.{range_with_len, flat_map}
use Rattle.serde_json.specs.Data.{Data, boolean, array, object, no_members, member}
use Rattle.serde_json.specs.View.{items_of}
use Rattle.number_sets.specs.Sets.{has_number}
use Rattle.latin_board.specs.Squares.{GridValue, number_at}
use Rattle.latin_board.specs.Boards.{BoardValue, grid_of, marks_at}
use Rattle.trail_solver.specs.Puzzles.{Puzzle}
use Rattle.board_checks.specs.Errors.{ErrorsValue, has_repeated}
use Rattle.json_replies.specs.Counts.{count_data}

-- the list of what f gives for each of the numbers, in turn
abbrev pub listed_data : (ℕ → List Data) → List ℕ → Data
listed_data f ns = array (items_of (flat_map f ns))

-- a list of the data if the test is true, and an empty one otherwise
abbrev pub when : Bool → Data → List Data
when t d = if t then d ∷ [] else []

-- the squares of a grid of a width
abbrev pub squares : ℕ → List ℕ
squares w = range_with_len 0 (w * w)

-- the number of each square, 0 where it is blank
abbrev pub grid_data : GridValue → Data
grid_data g = listed_data (λ cell. count_data (number_at g cell) ∷ []) (squares g.size)

-- the given number of each square, 0 where there is none
abbrev pub givens_data : Puzzle → Data
givens_data p = listed_data (λ cell. count_data (p.given cell) ∷ []) (squares p.size)

-- a set of pencil marks, rising
abbrev pub mark_set_data : ℕ → Data
mark_set_data marks = listed_data (λ n. when (has_number marks n) (count_data n)) (range_with_len 1 9)

-- the pencil marks of each square
abbrev pub marks_data : BoardValue → Data
marks_data b = listed_data (λ cell. mark_set_data (marks_at b cell) ∷ []) (squares b.size)

-- the squares whose number stands again in its row or column
abbrev pub repeats_data : ℕ → ErrorsValue → Data
repeats_data w e = listed_data (λ cell. when (has_repeated e cell) (count_data cell)) (squares w)

-- the board, its puzzle's givens, its errors, and what its game has beside them: clues and signs
abbrev pub board_data : Puzzle → BoardValue → ErrorsValue → Data → Data → Data
board_data p b e clues signs = object
    (member (codes "cheated") (boolean b.cheated)
    (member (codes "clues") clues
    (member (codes "completed") (boolean b.completed)
    (member (codes "errors") (repeats_data b.size e)
    (member (codes "givens") (givens_data p)
    (member (codes "marks") (marks_data b)
    (member (codes "numbers") (grid_data (grid_of b))
    (member (codes "signs") signs
    (member (codes "size") (count_data b.size)
    no_members)))))))))
