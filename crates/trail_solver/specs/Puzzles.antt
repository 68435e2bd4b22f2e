-- A puzzle as generic code knows it, apart from its items, and its solutions.
use Rattle.std.specs.Prelude.{◌≡◌, ℕ, ◌*◌, ◌<◌, Bool, ◌==◌, ◌&&◌, ◌||◌, IsTrue}
use Rattle.std.specs.List.{range_with_len, list_all}
use Rattle.latin_board.specs.Squares.{GridValue, IsGrid, IsLatin, number_at, latin_test}

-- a width, the given number of each square, 0 for none, whether a grid meets the puzzle's clues or signs, and at which
-- edge places a clue stands, which doesn't matter for its solutions
pub record Puzzle : Type 0 where
  pub size : ℕ
  pub given : ℕ → ℕ
  pub meets : GridValue → Bool
  pub clued : ℕ → Bool

-- each given stands in its square
abbrev pub HoldsGivens : Puzzle → GridValue → Type 0
HoldsGivens p g = (cell : ℕ) → cell < p.size * p.size → 0 < p.given cell → number_at g cell ≡ p.given cell

-- a solution: a Latin square of the puzzle's size with its givens that meets its clues
pub record Solves (p : Puzzle) (g : GridValue) : Type 0 where
  pub is_grid : IsGrid g
  pub same_size : g.size ≡ p.size
  pub latin : IsLatin g
  pub givens : HoldsGivens p g
  pub clues : IsTrue (p.meets g)

-- `HoldsGivens` as a test that computes
abbrev pub givens_test : Puzzle → GridValue → Bool
givens_test p g =
    list_all (λ cell. (p.given cell == 0) || (number_at g cell == p.given cell)) (range_with_len 0 (p.size * p.size))

-- `Solves`, of a grid, as a test that computes
abbrev pub solves_test : Puzzle → GridValue → Bool
solves_test p g = (((g.size == p.size) && latin_test g) && givens_test p g) && p.meets g
