-- Pairs of a square and a value, and lists of them.
use Rattle.std.specs.Prelude.{◌≡◌, ℕ, ◌*◌, ◌<◌, ◌≤◌, ◌==◌, Bool, false, ◌&&◌, if◌then◌else◌, List, [], ◌∷◌, ◌++◌, length, take, map}
use Rattle.std.specs.List.{filter, list_any, range_with_len}
use Rattle.number_sets.specs.Sets.{has_number}

-- the cell is a square of a grid of this size, and the value one of its numbers
pub record IsPair (size cell value : ℕ) : Type 0 where
  pub inside : cell < size * size
  pub low : 1 ≤ value
  pub high : value ≤ size

-- the pair is in the list
abbrev pub has_pair : List (ℕ × ℕ) → ℕ → ℕ → Bool
has_pair pairs cell value = list_any (λ p. (cell == p.0) && (value == p.1)) pairs

-- the list with the pair at its end, unless it has the pair already
abbrev pub with_pair : List (ℕ × ℕ) → ℕ → ℕ → List (ℕ × ℕ)
with_pair pairs cell value = if has_pair pairs cell value then pairs else pairs ++ (cell, value) ∷ []

-- the pairs of the cell and the set's numbers, the least first
unfoldable pub pairs_of : ℕ → ℕ → List (ℕ × ℕ)
pairs_of cell set = filter (λ p. has_number set p.1) (map (λ v. (cell, v)) (range_with_len 0 16))

-- no pair is in the list twice
abbrev pub AreApart : List (ℕ × ℕ) → Type 0
AreApart [] = Unit {0}
AreApart (p ∷ ps) = (has_pair ps p.0 p.1 ≡ false) × AreApart ps

-- the whole list begins with the front
pub record IsPrefix (front whole : List (ℕ × ℕ)) : Type 0 where
  pub is : take (length front) whole ≡ front
