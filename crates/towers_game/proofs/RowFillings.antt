-- The sets that are kept of a row are kept of another one, where each has the other's fillings.
use Rattle.std.proofs.lemmas.Bool.Decides.{nat_tests}
use Rattle.std.proofs.Common.{◌≡◌, ◌↔◌, ℕ, ◌<◌, true, List, length, take, slice_index, arith}
use Rattle.std.proofs.lemmas.List.{get_or-take}
use Rattle.number_sets.specs.Sets.{has_number}
use Rattle.tower_lines.specs.LineFillings.{IsFilling, IsSupported}
use Rattle.towers_game.specs.Inner.RowSets.{AreKept}

-- the sets of a row have what the fillings of another one have in their places
pub record HaveFillings (clue : ℕ) (from onto : List ℕ) : Type 0 where
  pub count : length from ≡ length onto
  pub each : (line : List ℕ) → IsFilling from clue line → (k : ℕ) → k < length onto → has_number (slice_index onto k) (slice_index line k) ≡ true

-- a value that is supported by one row is supported by a row that has its fillings
supported_too : (clue place value : ℕ) (from onto : List ℕ) → HaveFillings clue from onto → IsSupported from clue place value
    → IsSupported onto clue place value
supported_too clue place value from onto have s = grind (arith, nat_tests)

-- what is kept of a row is kept of one that has the same fillings
pub kept_of_both : (clue : ℕ) (from onto kept : List ℕ) → HaveFillings clue from onto → HaveFillings clue onto from → AreKept from clue kept
    → AreKept onto clue kept
kept_of_both clue from onto kept there back stays = grind (arith, nat_tests, supported_too)

-- the first sets of a row have what the row has there
pub has_taken : (width k v : ℕ) (sets : List ℕ) → k < width
    → (has_number (slice_index (take width sets) k) v ≡ true) ↔ (has_number (slice_index sets k) v ≡ true)
has_taken width k v sets low = grind (arith, nat_tests, get_or-take)
