-- The numbers that the squares of a line can hold, by what stands there.
use Rattle.std.specs.Prelude.{◌≡◌, ℕ, ◌<◌, ◌≤◌, ◌↔◌, true, List, length, slice_index}
use Rattle.latin_board.specs.Squares.{GridValue, number_at}
use Rattle.number_sets.specs.Sets.{has_number}
use Rattle.line_steps.specs.Views.{view_cell}

-- the set has the number alone, or where that is 0 each from 1 to w
pub record CanHold (w number set : ℕ) : Type 0 where
  pub each : (n : ℕ) → (has_number set n ≡ true) ↔ ((1 ≤ n) × (n ≤ w) × (0 < number → n ≡ number))

-- for each square from an edge place there is the set of what it can hold
pub record AreSetsFrom (g : GridValue) (place : ℕ) (sets : List ℕ) : Type 0 where
  pub room : length sets ≡ 9
  pub each : (k : ℕ) → k < g.size → CanHold g.size (number_at g (view_cell g.size place k)) (slice_index sets k)
