-- A line whose squares have one candidate each: its only filling.
use Rattle.std.proofs.lemmas.Bool.Decides.{nat_tests}
use Rattle.std.proofs.Common.{◌≡◌, ◌≢◌, ℕ, ◌+◌, ◌<◌, ◌≤◌, take, true, List, length, set, ◌||◌, arith, slice_index}
use Rattle.std.proofs.Math.ListN.{length-set}
use Rattle.std.proofs.lemmas.List.{get_or-set_same, get_or-set_other, get_or-take, length-take-le}
use Rattle.number_sets.specs.Sets.{has_number, IsEmpty, IsShared, IsSingle}
use Rattle.towers_game.specs.Inner.RowSets.{AreKept, AreSupported}
use Rattle.line_steps.proofs.FilledLemmas.{entries_more}

-- the first n sets have one value each, those of the line, all different and all used
pub record IsSettled (sets : List ℕ) (n used : ℕ) (line : List ℕ) : Type 0 where
  pub count : length line ≡ 9
  pub single : (k : ℕ) → k < n → IsSingle (slice_index sets k) (slice_index line k)
  pub in_used : (k : ℕ) → k < n → has_number used (slice_index line k) ≡ true
  pub apart : (i j : ℕ) → i < j → j < n → slice_index line i ≢ slice_index line j

-- if the next set has a single value that none before has, the line is settled one square further
pub settled_more : (sets line : List ℕ) (n used more v : ℕ) → IsSettled sets n used line → n < 9 → IsSingle (slice_index sets n) v
    → (IsShared used (slice_index sets n) → ⊥) → ((u : ℕ) → has_number more u ≡ (has_number used u || has_number (slice_index sets n) u))
    → IsSettled sets (n + 1) more (set line n v)
settled_more sets line n used more v h inside single fresh joined =
    grind (arith, nat_tests, get_or-set_same, get_or-set_other, length-set, entries_more)

-- where each number of a row is in some filling, the row is what its fillings keep
pub alone_kept : (w clue : ℕ) (sets : List ℕ) → w ≤ length sets → AreSupported w clue sets sets → ((k : ℕ) → w ≤ k → IsEmpty (slice_index sets k))
    → AreKept (take w sets) clue sets
alone_kept w clue sets room all rest place value = grind (arith, nat_tests, length-take-le, get_or-take)
