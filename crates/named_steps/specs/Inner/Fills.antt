-- Candidates that fill no grid.
use Rattle.std.specs.Prelude.{ℕ, ◌*◌, ◌<◌}
use Rattle.trail_solver.specs.Candidates.{CandidatesValue, IsOnly}

-- of some square none or several values are left
abbrev pub HasOpen : CandidatesValue → Type 0
HasOpen c = (cell : ℕ) × (cell < c.size * c.size) × ((v : ℕ) → IsOnly c cell v → ⊥)
