-- How a list of solutions goes on.
use Rattle.std.specs.Prelude.{◌≡◌, ℕ, ◌-◌, List, ◌++◌, length}
use Rattle.latin_board.specs.Squares.{GridValue}
use Rattle.trail_solver.specs.Listings.{AreFirst}

-- the new list is the old one followed by the first of these solutions, as many as the limit leaves
pub record Lists (Solution : GridValue → Type 0) (limit : ℕ) (old new : List GridValue) : Type 0 where
  pub more : List GridValue
  pub whole : new ≡ old ++ more
  pub first : AreFirst Solution (limit - length old) more
