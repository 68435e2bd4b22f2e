-- Orders of the numbers below n, as lists.
use Rattle.std.specs.Prelude.{◌≡◌, ℕ, suc, ◌<◌, ◌==◌, if◌then◌else◌, List, [], ◌∷◌, length, slice_index}

-- the first place of a number in a list, or the list's length where it isn't there
abbrev pub place_in : ℕ → List ℕ → ℕ
place_in i [] = 0
place_in i (x ∷ xs) = if i == x then 0 else suc (place_in i xs)

-- the list has each number below n once
pub record IsOrder (n : ℕ) (order : List ℕ) : Type 0 where
  pub count : length order ≡ n
  pub items : (k : ℕ) → k < n → slice_index order k < n
  pub places : (k : ℕ) → k < n → place_in (slice_index order k) order ≡ k
  pub inside : (i : ℕ) → i < n → place_in i order < n
  pub back : (i : ℕ) → i < n → slice_index order (place_in i order) ≡ i
