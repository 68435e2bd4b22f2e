-- Values that are taken away, and of which squares of a line they went.
use Rattle.std.specs.Prelude.{◌≡◌, ◌≢◌, ℕ, ◌-◌, ◌<◌, ◌≤◌, Bool, true, false, nat_lt, if◌then◌else◌, List, ◌++◌, length}
use Rattle.number_sets.specs.Sets.{has_number, IsEmpty}
use Rattle.latin_board.specs.Lines.{line_cell}
use Rattle.trail_solver.specs.Pairs.{IsPair, has_pair, pairs_of}
use Rattle.trail_solver.specs.Candidates.{CandidatesValue, AreCandidates, may_be}
use Rattle.line_steps.specs.Left.{IsLeft}

-- new is old without those values of a set that were left of the square
pub record Strikes (old new : CandidatesValue) (cell values : ℕ) : Type 0 where
  pub set : ℕ
  pub small : old.size ≤ 9
  pub some : (v : ℕ) → has_number set v ≡ true → has_number values v ≡ true
  pub left : AreCandidates old cell set
  pub all : (v : ℕ) → has_number values v ≡ true → IsPair old.size cell v → may_be old cell v ≡ true
      → has_number set v ≡ true
  pub size : new.size ≡ old.size
  pub trail : new.trail ≡ old.trail ++ pairs_of cell set

-- new is old without all pairs of a kind that were left of it
pub record Takes (Which : ℕ → ℕ → Type 0) (old new : CandidatesValue) : Type 0 where
  pub pairs : List (ℕ × ℕ)
  pub size : new.size ≡ old.size
  pub trail : new.trail ≡ old.trail ++ pairs
  pub each : (cell v : ℕ) → has_pair pairs cell v ≡ true → IsPair old.size cell v × Which cell v
  pub gone : (cell v : ℕ) → IsPair old.size cell v → Which cell v → may_be new cell v ≡ false

-- the other line crosses the line at one of the places
abbrev pub is_crossing : ℕ → ℕ → ℕ → ℕ → Bool
is_crossing w line places other =
    if nat_lt line w then (if nat_lt other w then false else has_number places (other - w))
    else (if nat_lt other w then has_number places other else false)

-- candidates may have gone from the squares at these places of the line, and from no others; some have gone
-- if there is such a place, and none if there is none
pub record AreChanged (line places : ℕ) (old new : CandidatesValue) : Type 0 where
  pub stays : (cell v : ℕ) → IsLeft old cell v
      → ((k : ℕ) → k < old.size → has_number places k ≡ true → cell ≢ line_cell old.size line k) → IsLeft new cell v
  pub went : (k : ℕ) → has_number places k ≡ true → length old.trail < length new.trail
  pub same : IsEmpty places → new ≡ old
