-- Pencil marks: sets of numbers that stand in a square.
use Rattle.std.specs.Prelude.{◌≡◌, ℕ, ◌≤◌, true}
use Rattle.number_sets.specs.Sets.{has_number}

-- each number of the set is from 1 to w
pub record IsMarkSet (w marks : ℕ) : Type 0 where
  pub each : (n : ℕ) → has_number marks n ≡ true → (1 ≤ n) × (n ≤ w)
