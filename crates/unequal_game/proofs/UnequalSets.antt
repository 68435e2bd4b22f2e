-- The strikes of signs, as sets.
use Rattle.std.proofs.Common.{arith, ◌≡◌, ◌↔◌, ℕ, ◌*◌, ◌<◌, ◌≤◌, true}
use Rattle.std.proofs.lemmas.Bool.Decides.{nat_tests}
use Rattle.number_sets.specs.Sets.{has_number}
use Rattle.trail_solver.specs.Pairs.{IsPair}
use Rattle.trail_solver.specs.Candidates.{CandidatesValue}
use Rattle.unequal_game.specs.Unequal.{UnequalValue, IsUnequal, IsGreater}
use Rattle.unequal_game.specs.Laws.Signs.{never_both}
use Rattle.unequal_game.specs.Laws.UnequalReasons.{ends_inside}
use Rattle.line_steps.specs.Left.{IsLeft}
use Rattle.unequal_game.specs.UnequalReasons.{IsBySign}

-- at the lesser end of a sign those values are struck that none left of the greater end is above
pub greater_struck : (p : UnequalValue) (c : CandidatesValue) (from to cell result v : ℕ) → IsUnequal p → cell < c.size * c.size → to ≡ cell → IsGreater p from to
    → ((v : ℕ) → (has_number result v ≡ true) ↔ ((1 ≤ v) × (v ≤ c.size) × ((u : ℕ) → IsLeft c from u → u ≤ v)))
    → (has_number result v ≡ true) ↔ (IsPair c.size cell v × IsBySign p c from to cell v)
greater_struck p c from to cell result v valid inside here up tested = grind (arith, nat_tests, never_both)

-- at the greater end of a sign those values are struck that none left of the lesser end is below
pub lesser_struck : (p : UnequalValue) (c : CandidatesValue) (from to cell result v : ℕ) → IsUnequal p → cell < c.size * c.size → to ≡ cell → IsGreater p to from
    → ((v : ℕ) → (has_number result v ≡ true) ↔ ((1 ≤ v) × (v ≤ c.size) × ((u : ℕ) → IsLeft c from u → v ≤ u)))
    → (has_number result v ≡ true) ↔ (IsPair c.size cell v × IsBySign p c from to cell v)
lesser_struck p c from to cell result v valid inside here down tested = grind (arith, nat_tests, never_both)

-- the square by which a sign strikes is on the grid
pub from_inside : (p : UnequalValue) (c : CandidatesValue) (from to cell v : ℕ) → IsUnequal p → IsBySign p c from to cell v → from < p.size * p.size
from_inside p c from to cell v valid h = grind (arith, nat_tests, ends_inside)
