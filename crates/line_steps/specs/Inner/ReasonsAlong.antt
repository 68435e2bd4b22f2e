-- The reasons that look along a line, in a list.
use Rattle.std.specs.Prelude.{◌≡◌, ◌↔◌, ℕ, ◌+◌, ◌*◌, ◌<◌, true, false, List, length, slice_index}
use Rattle.number_sets.specs.Sets.{has_number}
use Rattle.latin_board.specs.Lines.{line_cell}
use Rattle.trail_solver.specs.Pairs.{IsPair}
use Rattle.trail_solver.specs.Candidates.{CandidatesValue, may_be}
use Rattle.line_steps.specs.Views.{front_place}
use Rattle.line_steps.specs.Reasons.{Striking}
use Rattle.line_steps.specs.declared.reason.Reason.{Reason}
use Rattle.line_steps.specs.declared.reason.Reason.TheVariants.{Bound, Stand, Clue, Sign}

-- the reason is the n-th along the line: the clue at each end by itself, with the numbers that stand there, and with all
-- that is left; then the sign of each square and the next, both ways
pub record IsNthAlong (w line n : ℕ) (reason : Reason) : Type 0 where
  pub bound : n ≡ 0 → reason ≡ Bound (front_place w line)
  pub stand : n ≡ 1 → reason ≡ Stand (front_place w line)
  pub clue : n ≡ 2 → reason ≡ Clue (front_place w line)
  pub bound_back : n ≡ 3 → reason ≡ Bound (front_place w line + w)
  pub stand_back : n ≡ 4 → reason ≡ Stand (front_place w line + w)
  pub clue_back : n ≡ 5 → reason ≡ Clue (front_place w line + w)
  pub on : (k : ℕ) → n ≡ 2 * k + 6 → reason ≡ Sign (line_cell w line k) (line_cell w line (k + 1))
  pub back : (k : ℕ) → n ≡ 2 * k + 7 → reason ≡ Sign (line_cell w line (k + 1)) (line_cell w line k)

-- the k-th of the first n sets has the values that are struck in the line's square k
pub record AreStruckOn (w : ℕ) (Struck : ℕ → ℕ → Type 0) (line n : ℕ) (row : List ℕ) : Type 0 where
  pub count : length row ≡ 9
  pub each : (k v : ℕ) → k < n → (has_number (slice_index row k) v ≡ true)
      ↔ (IsPair w (line_cell w line k) v × Struck (line_cell w line k) v)

-- the reason strikes nothing that is left along the line
abbrev pub IsQuietBy : Striking → Reason → ℕ → CandidatesValue → Type 0
IsQuietBy Struck reason line c =
    (k v : ℕ) → k < c.size → IsPair c.size (line_cell c.size line k) v → Struck c reason (line_cell c.size line k) v
    → may_be c (line_cell c.size line k) v ≡ false
