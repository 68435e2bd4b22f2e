-- Groups: told steps side by side that are one sentence.
use Rattle.std.specs.Prelude.{◌≡◌, ◌≤◌, ℕ, List, All, sum}

-- each group is of one step at least, and all together are of so many steps
pub record AreGroups (steps : ℕ) (groups : List ℕ) : Type 0 where
  pub some : All (λ group. 1 ≤ group) groups
  pub whole : sum groups ≡ steps
