-- Loops that write the squares of a board in turn: what they have written before square i.
use Rattle.std.proofs.lemmas.Bool.Decides.{nat_tests}
use Rattle.std.proofs.Common.{◌≡◌, ℕ, ◌+◌, ◌*◌, ◌<◌, ◌≤◌, true, List, length, get_or, set, map, replicate, slice_set, slice_index, sym, ap, ◌∙◌, arith}
use Rattle.std.specs.List.{range_with_len}
use Rattle.std.proofs.lemmas.List.{length-set, set-get_or, length-replicate, get_or-replicate}
use Rattle.std.proofs.lemmas.List.Edits.{fill_by_more}
use Rattle.std.proofs.lemmas.List.FromFn.{fill_by_all}
use Rattle.std.proofs.lemmas.Grind.{same_number_lists}
use Rattle.trail_solver.specs.Puzzles.{Puzzle}
use Rattle.latin_board.specs.Squares.{GridValue, IsGrid, number_at}
use Rattle.number_sets.specs.Sets.{no_numbers}
use Rattle.latin_board.specs.Boards.{BoardValue, grid_of}
use Rattle.latin_board.specs.Changes.{OneSquare, board_after}
use Rattle.play_midend.specs.Steps.{marks_of_all, all_marked, filled, givens_of}

-- the list has n places, and those before i hold what f says
pub record PlacesHold (f : ℕ → ℕ) (n i : ℕ) (xs : List ℕ) : Type 0 where
  pub long : length xs ≡ n
  pub each : (k : ℕ) → k < i → get_or xs k 0 ≡ f k

pub places_more : (f : ℕ → ℕ) (n i x : ℕ) (xs : List ℕ) → PlacesHold f n i xs → i < n → x ≡ f i → PlacesHold f n (i + 1) (set xs i x)
places_more f n i x xs h inside is = grind (arith, nat_tests, length-set, fill_by_more)

pub places_all : (f : ℕ → ℕ) (n i : ℕ) (xs : List ℕ) → PlacesHold f n i xs → n ≤ i → xs ≡ map f (range_with_len 0 n)
places_all f n i xs h all = fill_by_all f xs n 0 h.long (λ k less. h.each k (omega arith))

places_same : (n i : ℕ) (ys xs : List ℕ) → PlacesHold (λ k. slice_index ys k) n i xs → n ≤ i → length ys ≡ n → xs ≡ ys
places_same n i ys xs h all long = same_number_lists xs ys (h.long ∙ sym long) (λ k less. h.each k (omega (arith, h.long)))

places_alike : (n i x : ℕ) (xs : List ℕ) → PlacesHold (λ _. x) n i xs → n ≤ i → xs ≡ replicate n x
places_alike n i x xs h all = grind (arith, nat_tests, same_number_lists, length-replicate, get_or-replicate)

-- the grid has the puzzle's size, and its givens in all squares before i
pub record HasGivens (p : Puzzle) (grid : GridValue) (i : ℕ) : Type 0 where
  pub size : grid.size ≡ p.size
  pub numbers : PlacesHold p.given (p.size * p.size) i grid.numbers

pub givens_all : (p : Puzzle) (grid : GridValue) (i : ℕ) → HasGivens p grid i → p.size * p.size ≤ i → grid ≡ givens_of p
givens_all p grid i h all = grind (arith, nat_tests, places_all)

-- the new board is the old one, but in all squares before i it has the marks of `marks_of_all`
pub record HasMarks (board next : BoardValue) (i : ℕ) : Type 0 where
  pub rest : next ≡ record board { marks = next.marks }
  pub marks : PlacesHold (marks_of_all board) (board.size * board.size) i next.marks

-- the new board has the grid's numbers and no marks in all squares before i, and both flags if i isn't 0
pub record HasNumbers (board next : BoardValue) (grid : GridValue) (i : ℕ) : Type 0 where
  pub size : next.size ≡ board.size
  pub done : next.done ≡ board.done
  pub numbers : PlacesHold (number_at grid) (board.size * board.size) i next.numbers
  pub marks : PlacesHold (λ _. no_numbers) (board.size * board.size) i next.marks
  pub completed : 0 < i → next.completed ≡ true
  pub cheated : 0 < i → next.cheated ≡ true

pub marks_all : (board next : BoardValue) (i : ℕ) → HasMarks board next i → board.size * board.size ≤ i → next ≡ all_marked board
marks_all board next i h all =
    h.rest ∙ ap (λ ms. record board { marks = ms }) (places_all (marks_of_all board) (board.size * board.size) i next.marks h.marks all)

-- a loop that writes square i with its own number and its marks has the marks of one square more
pub marks_more : (board next new : BoardValue) (i marks : ℕ) → HasMarks board next i → i < board.size * board.size
    → marks ≡ marks_of_all board i
    → new ≡ board_after next (OneSquare (record {
      cell = i;
      number = number_at (grid_of board) i;
      marks = marks;
      completed = board.completed;
      cheated = board.cheated;
    }))
    → HasMarks board new (i + 1)
marks_more board next new i marks h inside is written =
    let numbers : slice_set next.numbers i (number_at (grid_of board) i) ≡ board.numbers =
    ap (λ (b : BoardValue). slice_set b.numbers i (number_at (grid_of board) i)) h.rest ∙ set-get_or board.numbers i 0 in
    let size : next.size ≡ board.size = ap (λ (b : BoardValue). b.size) h.rest in
    let done : next.done ≡ board.done = ap (λ (b : BoardValue). b.done) h.rest in
    rw written (record {
      rest = λ k. record {
        size = size k;
        numbers = numbers k;
        marks = slice_set next.marks i marks;
        completed = board.completed;
        cheated = board.cheated;
        done = done k;
      };
      marks = places_more (marks_of_all board) (board.size * board.size) i marks next.marks h.marks inside is;
    })

pub numbers_all : (board next : BoardValue) (grid : GridValue) (i : ℕ) → HasNumbers board next grid i → IsGrid grid → grid.size ≡ board.size
    → board.size * board.size ≤ i → next ≡ filled board grid
numbers_all board next grid i h valid size all =
    let n = board.size * board.size in
    let low : 3 ≤ board.size = rw size at valid.smallest in
    let some : 0 < i = grind arith in
    let long : length grid.numbers ≡ n = valid.count ∙ ap (λ w. w * w) size in
    let numbers = places_same n i grid.numbers next.numbers h.numbers all long in
    let marks = places_alike n i no_numbers next.marks h.marks all in
    let completed = h.completed some in
    let cheated = h.cheated some in
    λ k. record {
      size = h.size k;
      numbers = numbers k;
      marks = marks k;
      completed = completed k;
      cheated = cheated k;
      done = h.done k;
    }
