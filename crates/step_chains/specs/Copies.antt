-- Candidates taken once more.
use Rattle.std.specs.Prelude.{◌≡◌}
use Rattle.trail_solver.specs.Candidates.{CandidatesValue}
use Rattle.line_steps.specs.Left.{AreAlike}

-- the same is left of the copy, and it has the same size
pub record IsCopy (c copy : CandidatesValue) : Type 0 where
  pub size : copy.size ≡ c.size
  pub alike : AreAlike c copy
