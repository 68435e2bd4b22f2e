-- Sets of what is left in the squares of a line, and of what stands in one.
use Rattle.std.specs.Prelude.{◌≡◌, ℕ, ◌<◌, List, length, slice_index, ◌↔◌, true}
use Rattle.latin_board.specs.Lines.{line_cell}
use Rattle.trail_solver.specs.Candidates.{CandidatesValue, IsSetOf}
use Rattle.number_sets.specs.Sets.{has_number, IsSubset}

-- the k-th of the first n sets has what is left of the line's square k
pub record AreLineSets (c : CandidatesValue) (line n : ℕ) (sets : List ℕ) : Type 0 where
  pub count : length sets ≡ 9
  pub each : (k : ℕ) → k < n → IsSetOf c (line_cell c.size line k) (slice_index sets k)

-- the values that may stand in a square if only lone values are seen: its only one, none where nothing is
-- left of it, and otherwise any of all
abbrev pub IsStandingSet : ℕ → ℕ → ℕ → Type 0
IsStandingSet all left set = IsSubset left all → (v : ℕ)
    → (has_number set v ≡ true)
    ↔ ((has_number all v ≡ true) × ((alone : ℕ) → ((n : ℕ) → has_number left n ≡ true → n ≡ alone) → v ≡ alone))
