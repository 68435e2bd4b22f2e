-- The fields of `Candidates`: the sets say what the trail says.
use Rattle.std.specs.Prelude.{◌≡◌, ℕ, ◌*◌, ◌^◌, ◌<◌, ◌≤◌, ◌==◌, nat_le, Bool, true, false, not, ◌&&◌, if◌then◌else◌}
use Rattle.std.specs.Prelude.{List, length, slice_index, take, All}
use Rattle.std.specs.List.{flat_map}
use Rattle.latin_board.specs.declared.grid.TheConstants.{CELLS}
use Rattle.number_sets.specs.Sets.{has_number, IsEmpty, IsSubset}
use Rattle.trail_solver.specs.declared.trail.Removal.{Removal}
use Rattle.trail_solver.specs.Pairs.{IsPair, AreApart, has_pair, pairs_of}

-- the value is one of the size's, and the pair isn't in the trail
abbrev pub is_left : ℕ → List (ℕ × ℕ) → ℕ → ℕ → Bool
is_left size trail cell value = (nat_le 1 value && nat_le value size) && not (has_pair trail cell value)

-- each set has the values that are left in its square, and the trail is a list of the size's pairs without repeats
pub record AgreesWithTrail (size : ℕ) (sets : List ℕ) (trail : List (ℕ × ℕ)) : Type 0 where
  pub smallest : 3 ≤ size
  pub largest : size ≤ 9
  pub places : length sets ≡ CELLS
  pub agree : (cell value : ℕ) → cell < size * size
      → has_number (slice_index sets cell) value ≡ is_left size trail cell value
  pub in_range : (cell value : ℕ) → has_pair trail cell value ≡ true → IsPair size cell value
  pub apart : AreApart trail

-- the pairs of the removals, one after another
abbrev pub trail_of : List Removal → List (ℕ × ℕ)
trail_of removals = flat_map (λ r. pairs_of r.cell r.values) removals

-- the values that went are numbers below 16, and not none
pub record IsRemoval (removal : Removal) : Type 0 where
  pub small : removal.values < 2 ^ 16
  pub some : (v : ℕ) × (has_number removal.values v ≡ true)

-- the sets agree with the trail of the removals, and so many pairs are in it
pub record AreFields (size : ℕ) (sets : List ℕ) (removals : List Removal) (pairs : ℕ) : Type 0 where
  pub agrees : AgreesWithTrail size sets (trail_of removals)
  pub each : All IsRemoval removals
  pub count : pairs ≡ length (trail_of removals)

-- new is old with the set's numbers taken out of the cell's set where they were in, and put in where they weren't
pub record FlipsSet (old new : List ℕ) (cell set : ℕ) : Type 0 where
  pub places : length new ≡ length old
  pub values : (c v : ℕ) → has_number (slice_index new c) v
      ≡ (if (c == cell) && has_number set v then not (has_number (slice_index old c) v)
      else has_number (slice_index old c) v)

-- the part has the greatest numbers of the set, at least one if the set has any
pub record IsUpperPart (set part : ℕ) : Type 0 where
  pub within : IsSubset part set
  pub upper : (u v : ℕ) → has_number set u ≡ true → has_number part u ≡ false → has_number part v ≡ true → u < v
  pub some : IsEmpty part → IsEmpty set

-- the new trail is a shorter front of the old one, and still has the first `kept` pairs
pub record GivesBack (kept : ℕ) (old new : List (ℕ × ℕ)) : Type 0 where
  pub stays : kept ≤ length new
  pub less : length new < length old
  pub front : new ≡ take (length new) old
