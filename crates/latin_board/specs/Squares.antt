-- Square grids of numbers, and when one is a Latin square.
use Rattle.std.specs.Prelude.{◌≡◌, ℕ, ◌+◌, ◌*◌, ◌<◌, ◌≤◌, Bool, ◌==◌, ◌&&◌, List, length, slice_index, replicate, map, count_by, All}
use Rattle.std.specs.List.{range_with_len, list_all}

-- a width, and the numbers in reading order; 0 stands for a blank square
pub record GridValue : Type 0 where
  pub size : ℕ
  pub numbers : List ℕ

-- what each grid of the program keeps
pub record IsGrid (g : GridValue) : Type 0 where
  pub smallest : 3 ≤ g.size
  pub largest : g.size ≤ 9
  pub count : length g.numbers ≡ g.size * g.size
  pub within : All (λ n. n ≤ g.size) g.numbers

-- the grid of blank squares
abbrev pub blank_grid : ℕ → GridValue
blank_grid w = record { size = w; numbers = replicate (w * w) 0 }

-- the number at a square, squares being counted from 0 in reading order
abbrev pub number_at : GridValue → ℕ → ℕ
number_at g cell = slice_index g.numbers cell

-- no square is blank
pub record IsFull (g : GridValue) : Type 0 where
  pub each : (cell : ℕ) → cell < g.size * g.size → 0 < number_at g cell

-- row r, read to the right
abbrev pub row_of : GridValue → ℕ → List ℕ
row_of g r = map (λ c. number_at g (r * g.size + c)) (range_with_len 0 g.size)

-- column c, read down
abbrev pub column_of : GridValue → ℕ → List ℕ
column_of g c = map (λ r. number_at g (r * g.size + c)) (range_with_len 0 g.size)

-- how often v stands in a line
abbrev pub times_in : ℕ → List ℕ → ℕ
times_in v line = count_by (λ n. n == v) line

-- each number from 1 to w stands in the line exactly once
abbrev pub HasEachOnce : ℕ → List ℕ → Type 0
HasEachOnce w line = (v : ℕ) → 1 ≤ v → v ≤ w → times_in v line ≡ 1

-- each row and each column holds each number from 1 to the width exactly once
pub record IsLatin (g : GridValue) : Type 0 where
  pub rows : (r : ℕ) → r < g.size → HasEachOnce g.size (row_of g r)
  pub columns : (c : ℕ) → c < g.size → HasEachOnce g.size (column_of g c)

-- `HasEachOnce` as a test that computes
abbrev pub each_once_test : ℕ → List ℕ → Bool
each_once_test w line = list_all (λ v. times_in v line == 1) (range_with_len 1 w)

-- `IsLatin` as a test that computes
abbrev pub latin_test : GridValue → Bool
latin_test g =
    list_all (λ r. each_once_test g.size (row_of g r)) (range_with_len 0 g.size)
    && list_all (λ c. each_once_test g.size (column_of g c)) (range_with_len 0 g.size)
