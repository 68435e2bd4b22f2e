-- Sets of masks, as words of 64 masks each: those of a word differ in their six lowest bits alone.
use Rattle.std.specs.Prelude.{ℕ, ◌/◌, ◌%◌, Bool, List, [], slice_index, slice_index_or}
use Rattle.number_sets.specs.Sets.{has_number}

-- whether the set has the mask
abbrev pub has_mask : List ℕ → ℕ → Bool
has_mask words mask = has_number (slice_index words (mask / 64)) (mask % 64)

-- whether a level's set has the mask
abbrev pub has_at : List (List ℕ) → ℕ → ℕ → Bool
has_at levels level mask = has_mask (slice_index_or levels level []) mask
