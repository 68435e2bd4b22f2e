-- Lists of values that stand at the first places of a line, and masks of the values that are used there.
use Rattle.std.specs.Prelude.{◌≡◌, ℕ, ◌+◌, Bool, not, ◌&&◌, nat_le, List, length, slice_index, ◌==◌}
use Rattle.std.specs.List.{list_any}
use Rattle.number_sets.specs.Sets.{has_number}

-- whether a value is in a list
abbrev pub is_in : ℕ → List ℕ → Bool
is_in value line = list_any (λ x. x == value) line

-- whether the value can stand at the place: from 1 to the length, a candidate there, and not used
abbrev pub can_be : List ℕ → ℕ → ℕ → ℕ → Bool
can_be sets place used value =
    nat_le 1 value
    && (nat_le value (length sets) && (has_number (slice_index sets place) value && not (has_number used value)))

-- the mask has the list's values: bit k stands for the value k + 1
pub record IsMask (mask : ℕ) (line : List ℕ) : Type 0 where
  pub bits : (k : ℕ) → has_number mask k ≡ is_in (k + 1) line
