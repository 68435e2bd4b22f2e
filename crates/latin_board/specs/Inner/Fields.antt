-- The fields of a grid and of a board: lists of `CELLS` places, of which those past the squares are empty.
use Rattle.std.specs.Prelude.{◌≡◌, ℕ, ◌-◌, ◌*◌, ◌<◌, ◌≤◌, true, List, ◌++◌, length, take, drop, replicate, All}
use Rattle.std.proofs.Common.{take-append-drop}
use Rattle.latin_board.specs.declared.grid.TheConstants.{CELLS}
use Rattle.number_sets.specs.Sets.{has_number}
use Rattle.latin_board.specs.Marks.{IsMarkSet}

-- the places past the squares of width w hold 0
pub record IsPadded (w : ℕ) (places : List ℕ) : Type 0 where
  pub count : length places ≡ CELLS
  pub rest : drop (w * w) places ≡ replicate (CELLS - w * w) 0

-- the places of a grid of the width: numbers of it first, and blanks after its squares
pub record KeepsNumbers (w : ℕ) (places : List ℕ) : Type 0 where
  pub smallest : 3 ≤ w
  pub largest : w ≤ 9
  pub padded : IsPadded w places
  pub within : All (λ n. n ≤ w) places

-- the places of the marks of a grid of the width, and the done marks of its edge
pub record KeepsMarks (w : ℕ) (places : List ℕ) (done : ℕ) : Type 0 where
  pub padded : IsPadded w places
  pub within : All (IsMarkSet w) places
  pub done_within : (place : ℕ) → has_number done place ≡ true → place < 4 * w

-- the squares' places and the empty rest are all
pub front_and_rest : (w : ℕ) (places : List ℕ) → IsPadded w places
    → take (w * w) places ++ replicate (CELLS - w * w) 0 ≡ places
front_and_rest w places h = rw (← h.rest) (take-append-drop (w * w) places)
