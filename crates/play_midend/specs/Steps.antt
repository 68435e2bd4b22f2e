-- One move on a board, and a list of moves replayed from the start.
use Rattle.std.specs.Prelude.{◌≡◌, ℕ, ◌+◌, ◌*◌, ℤ, Bool, true, false, not, ◌==◌, ◌&&◌, ◌||◌, nat_lt, nat_le}
use Rattle.std.specs.Prelude.{if◌then◌else◌, List, [], ◌∷◌, length, map, replicate, slice_set, Option, Some, None, Result, Ok, Err, IsOk, IsTrue}
use Rattle.std.specs.Option.{option_map_or, option_or}
use Rattle.std.specs.List.{range_with_len, list_all}
use Rattle.std.specs.Result.{result_unwrap_or}
use Rattle.latin_board.specs.Squares.{GridValue, number_at}
use Rattle.number_sets.specs.Sets.{no_numbers, numbers_to, flip_number}
use Rattle.latin_board.specs.Boards.{BoardValue, grid_of, marks_at, start_board, with_done_flipped}
use Rattle.latin_board.specs.Changes.{ChangeValue, OneSquare, WholeBoard, FitsBoard, board_after, change_after}
use Rattle.latin_board.specs.Edges.{edge_place}
use Rattle.trail_solver.specs.Puzzles.{Puzzle, solves_test}
use Rattle.play_midend.specs.declared.moves.Move.{Move}
use Rattle.play_midend.specs.declared.moves.Move.TheVariants.{Real, Pencil, MarkAll, Solve, Restart, Done}
use Rattle.play_midend.specs.declared.fault.PlayFault.{PlayFault}
use Rattle.play_midend.specs.declared.fault.PlayFault.TheVariants.{OffGrid, OffRange, GivenSquare, FilledSquare, BadSolution, OutOfMemory}

-- the square at column x and row y
abbrev pub cell_of : ℕ → ℕ → ℕ → ℕ
cell_of w x y = y * w + x

-- the first refusal of a number or a mark n at the square (x, y), whatever the board shows
abbrev pub entry_refusal : Puzzle → ℕ → ℕ → ℕ → Option PlayFault
entry_refusal p x y n =
    if not (nat_lt x p.size && nat_lt y p.size) then Some OffGrid
    else (if nat_lt p.size n then Some OffRange
    else (if p.given (cell_of p.size x y) == 0 then None else Some GivenSquare))

-- the refusal of a pencil mark at a square that holds a number
abbrev pub mark_refusal : BoardValue → ℕ → ℕ → Option PlayFault
mark_refusal b cell n = if (n == 0) || (number_at (grid_of b) cell == 0) then None else Some FilledSquare

-- whether there is a clue at the edge place (x, y)
abbrev pub has_clue : Puzzle → ℤ → ℤ → Bool
has_clue p x y = option_map_or p.clued (edge_place p.size x y) false

-- `IsGrid` as a test that can be computed
unfoldable pub grid_test : GridValue → Bool
grid_test g =
    ((nat_le 3 g.size && nat_le g.size 9) && (length g.numbers == g.size * g.size))
    && list_all (λ n. nat_le n g.size) g.numbers

-- the first refusal of a move, if any
abbrev pub refusal_of : Puzzle → BoardValue → Move → Option PlayFault
refusal_of p b (Real x y n) = entry_refusal p x y n
refusal_of p b (Pencil x y n) = option_or (entry_refusal p x y n) (mark_refusal b (cell_of p.size x y) n)
refusal_of p b MarkAll = None
refusal_of p b (Solve g) = if solves_test p g && grid_test g then None else Some BadSolution
refusal_of p b Restart = None
refusal_of p b (Done x y) = if has_clue p x y then None else Some OffGrid

-- the board with a number at a square and no marks there, completed if the numbers now solve the puzzle
abbrev pub with_number : Puzzle → BoardValue → ℕ → ℕ → BoardValue
with_number p b cell n = record b {
  numbers = slice_set b.numbers cell n;
  marks = slice_set b.marks cell no_numbers;
  completed = b.completed || solves_test p (record { size = b.size; numbers = slice_set b.numbers cell n });
}

-- the board with one pencil mark flipped
abbrev pub with_mark_flipped : BoardValue → ℕ → ℕ → BoardValue
with_mark_flipped b cell n = record b { marks = slice_set b.marks cell (flip_number (marks_at b cell) n) }

-- the marks of a square once all are marked: all numbers if it is empty, and otherwise the marks that it has
abbrev pub marks_of_all : BoardValue → ℕ → ℕ
marks_of_all b cell = if number_at (grid_of b) cell == 0 then numbers_to b.size else marks_at b cell

-- the board after the move that marks all
abbrev pub all_marked : BoardValue → BoardValue
all_marked b = record b { marks = map (marks_of_all b) (range_with_len 0 (b.size * b.size)) }

-- the board with a solution filled in: done marks stay
abbrev pub filled : BoardValue → GridValue → BoardValue
filled b g = record b {
  numbers = g.numbers;
  marks = replicate (b.size * b.size) no_numbers;
  completed = true;
  cheated = true;
}

-- the grid with the givens of a puzzle
abbrev pub givens_of : Puzzle → GridValue
givens_of p = record { size = p.size; numbers = map p.given (range_with_len 0 (p.size * p.size)) }

-- the board at the start of a puzzle: its givens
abbrev pub start_of : Puzzle → BoardValue
start_of p = start_board (givens_of p)

-- the board after a move that isn't refused
abbrev pub moved : Puzzle → BoardValue → Move → BoardValue
moved p b (Real x y n) = with_number p b (cell_of p.size x y) n
moved p b (Pencil x y n) =
    if n == 0 then with_number p b (cell_of p.size x y) 0
    else with_mark_flipped b (cell_of p.size x y) n
moved p b MarkAll = all_marked b
moved p b (Solve g) = filled b g
moved p b Restart = start_of p
moved p b (Done x y) = option_map_or (with_done_flipped b) (edge_place p.size x y) b

-- a refusal, where there is one, in place of a value
abbrev pub unless_refused : {A : Type 0} → Option PlayFault → A → Result A PlayFault
unless_refused None a = Ok a
unless_refused (Some fault) a = Err fault

-- one move: the first refusal, or the new board
abbrev pub step : Puzzle → BoardValue → Move → Result BoardValue PlayFault
step p b m = unless_refused (refusal_of p b m) (moved p b m)

-- the board after a move, or the same board if the move is refused
abbrev pub after_move : Puzzle → BoardValue → Move → BoardValue
after_move p b m = result_unwrap_or (step p b m) b

-- a list of moves, made from a board in turn
abbrev pub replay_from : Puzzle → BoardValue → List Move → BoardValue
replay_from p b [] = b
replay_from p b (m ∷ ms) = replay_from p (after_move p b m) ms

-- a list of moves, made in turn from the start of the puzzle
abbrev pub replay : Puzzle → List Move → BoardValue
replay p ms = replay_from p (start_of p) ms

-- none of the moves is refused, made in turn from this board
abbrev pub ArePlayable : Puzzle → BoardValue → List Move → Type 0
ArePlayable p b [] = Unit {0}
ArePlayable p b (m ∷ ms) = IsOk (step p b m) × ArePlayable p (after_move p b m) ms

-- whether the move is a restart
abbrev pub is_restart : Move → Bool
is_restart Restart = true
is_restart _ = false

-- whether the first move of a list is a restart
abbrev pub begins_with_restart : List Move → Bool
begins_with_restart [] = false
begins_with_restart (m ∷ ms) = is_restart m

-- a list of moves of the puzzle: each can be made in turn, and the first isn't a restart
pub record IsLegal (p : Puzzle) (ms : List Move) : Type 0 where
  pub playable : ArePlayable p (start_of p) ms
  pub no_restart_first : begins_with_restart ms ≡ false

-- the moves whose change is one square; any other may exchange the whole board
abbrev pub takes_memory : Move → Bool
takes_memory (Real x y n) = false
takes_memory (Pencil x y n) = false
takes_memory _ = true

-- a refusal of a move: its first one, or OutOfMemory in place of success if the move takes memory
abbrev pub IsRefusalOf : Move → Result BoardValue PlayFault → PlayFault → Type 0
IsRefusalOf m exact OutOfMemory = IsOk exact × IsTrue (takes_memory m)
IsRefusalOf m exact fault = exact ≡ Err fault

-- the change holds the content of one square, and no board
abbrev pub IsOneSquare : ChangeValue → Type 0
IsOneSquare (OneSquare held) = Unit {0}
IsOneSquare (WholeBoard other) = ⊥

-- a change that makes a move on a board, and takes it back when it is exchanged once more
pub record Makes (p : Puzzle) (b : BoardValue) (m : Move) (change : ChangeValue) : Type 0 where
  pub fits : FitsBoard b change
  pub made : step p b m ≡ Ok (board_after b change)
  pub fits_again : FitsBoard (board_after b change) (change_after b change)
  pub back : board_after (board_after b change) (change_after b change) ≡ b
  pub change_back : change_after (board_after b change) (change_after b change) ≡ change
