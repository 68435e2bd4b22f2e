-- The first solutions of a puzzle, in order.
use Rattle.std.specs.Prelude.{◌≡◌, ℕ, ◌<◌, ◌≤◌, ◌⊎◌, List, length, All, AllPairs, Contains, slice_index}
use Rattle.latin_board.specs.Squares.{GridValue}

-- as lists of numbers f is below g: they agree up to some place, and f has the smaller number there
pub record IsBelow (f g : GridValue) : Type 0 where
  pub place : ℕ
  pub same : (k : ℕ) → k < place → slice_index f.numbers k ≡ slice_index g.numbers k
  pub less : slice_index f.numbers place < slice_index g.numbers place

-- at most so many solutions, rising, so each once; one that isn't listed is greater than all that are, and there is one
-- only where the list has as many as it may
pub record AreFirst (Solution : GridValue → Type 0) (limit : ℕ) (listed : List GridValue) : Type 0 where
  pub few : length listed ≤ limit
  pub solutions : All Solution listed
  pub rising : AllPairs IsBelow listed
  pub others : (g : GridValue) → Solution g
      → Contains listed g ⊎ ((length listed ≡ limit) × All (λ f. IsBelow f g) listed)
