-- Starts of a line: a start's level is how many towers it shows, and its mask has its values but for
-- 1, the least, and the line's length, the greatest. Nothing after the greatest is seen, so one with it has
-- to show all towers of the clue: its level is the last, and no other start has that one. Whether a start has
-- the least value follows from the number of its other values.
use Rattle.std.specs.Prelude.{◌≡◌, ℕ, ◌+◌, ◌^◌, ◌<◌, ◌≤◌, ◌⊎◌, ◌↔◌, true, false, ◌&&◌, Bool, nat_lt, List, ◌++◌, length, ◌==◌, count_ones}
use Rattle.number_sets.specs.Sets.{has_number}
use Rattle.tower_lines.specs.TowersSeen.{seen}
use Rattle.tower_lines.specs.LineFillings.{IsStart, IsFilling}
use Rattle.tower_lines.specs.Inner.LineMasks.{is_in}
use Rattle.tower_lines.specs.Inner.MaskSets.{has_mask, has_at}

-- the mask has the list's values without the least and the greatest: bit k stands for the value k + 2
pub record IsLowMask (width mask : ℕ) (line : List ℕ) : Type 0 where
  pub bits : (k : ℕ) → has_number mask k ≡ (nat_lt (k + 2) width && is_in (k + 2) line)

-- a start of this level and mask: it has the greatest value if its level is the last, and otherwise lacks it
pub record IsAtLevel (sets : List ℕ) (clue level mask : ℕ) (line : List ℕ) : Type 0 where
  pub start : IsStart sets line
  pub used : IsLowMask (length sets) mask line
  pub low : level ≤ clue
  pub shown : seen line ≡ level
  pub last : is_in (length sets) line ≡ (level == clue)

-- the greatest value leads from the level before the last to the last one
pub record IsLastStep (width clue k level mask level_then mask_then : ℕ) : Type 0 where
  pub value : k + 1 ≡ width
  pub before : level + 1 ≡ clue
  pub after : level_then ≡ clue
  pub same : mask_then ≡ mask

-- a start with `place` values lacks the least one: its mask counts all of them, or at the last level all but
-- the greatest
abbrev pub LacksLeast : ℕ → ℕ → ℕ → ℕ → Type 0
LacksLeast place clue level mask =
    ((level < clue) × (count_ones mask ≡ place)) ⊎ ((level ≡ clue) × (count_ones mask + 1 ≡ place))

-- the level after the least value: as the first one it is seen and leads one level up, but not to the last;
-- after others it is hidden and the level stays, if the start lacked it
pub data IsLeastMove (place clue level mask level_then : ℕ) : Type 0 where
  First : place ≡ 0 → level_then ≡ level + 1 → level_then < clue → IsLeastMove place clue level mask level_then
  Later : 0 < place → level_then ≡ level → LacksLeast place clue level mask
      → IsLeastMove place clue level mask level_then

-- a step by the least value, k = 0: the mask stays, since this value is in none
pub record IsLeastStep (place width clue k level mask level_then mask_then : ℕ) : Type 0 where
  pub value : k ≡ 0
  pub more : 1 < width
  pub same : mask_then ≡ mask
  pub moves : IsLeastMove place clue level mask level_then

-- the level after a value between the least and the greatest: it stays at the last, and where a greater value
-- of the mask hides this one; otherwise it rises by one, though not to the last
pub data IsMove (clue bit level mask level_then : ℕ) : Type 0 where
  Within : level ≡ clue → level_then ≡ clue → IsMove clue bit level mask level_then
  Hidden : level < clue → 2 ^ bit ≤ mask → level_then ≡ level → IsMove clue bit level mask level_then
  Shown : mask < 2 ^ bit → level_then ≡ level + 1 → level_then < clue → IsMove clue bit level mask level_then

-- a step by a value between the least and the greatest: the mask lacks its bit before, and then has it
pub record IsLowStep (width clue bit level mask level_then mask_then : ℕ) : Type 0 where
  pub value : bit + 2 < width
  pub fresh : has_number mask bit ≡ false
  pub more : mask_then ≡ mask + 2 ^ bit
  pub moves : IsMove clue bit level mask level_then

-- the value k + 1 after a start with `place` values leads from its level and mask to these others
pub data IsLevelStep (place width clue k level mask level_then mask_then : ℕ) : Type 0 where
  Greatest : IsLastStep width clue k level mask level_then mask_then
      → IsLevelStep place width clue k level mask level_then mask_then
  Least : IsLeastStep place width clue k level mask level_then mask_then
      → IsLevelStep place width clue k level mask level_then mask_then
  Between : (bit : ℕ) → k ≡ bit + 1 → IsLowStep width clue bit level mask level_then mask_then
      → IsLevelStep place width clue k level mask level_then mask_then

-- the levels have the masks of all starts with so many values, and no other
abbrev pub AreReached : List ℕ → ℕ → ℕ → List (List ℕ) → Type 0
AreReached sets clue place levels = (level mask : ℕ)
    → (has_at levels level mask ≡ true)
    ↔ ((line : List ℕ) × (length line ≡ place) × IsAtLevel sets clue level mask line)

-- the levels have the masks of the starts with so many values that some filling begins with, and of no other start
pub record AreContinued (sets : List ℕ) (clue place : ℕ) (levels : List (List ℕ)) : Type 0 where
  pub is : (level mask : ℕ) (line : List ℕ) → length line ≡ place → IsAtLevel sets clue level mask line
      → (has_at levels level mask ≡ true) ↔ ((rest : List ℕ) × IsFilling sets clue (line ++ rest))

-- some mask of the levels is as `Link` says of it and its level
pub record IsLinked (Link : ℕ → ℕ → Type 0) (levels : List (List ℕ)) : Type 0 where
  pub level : ℕ
  pub mask : ℕ
  pub here : has_at levels level mask ≡ true
  pub link : Link level mask

-- the value k + 1 leads from some mask of the levels to this level and mask
abbrev pub IsReachedBy : ℕ → ℕ → ℕ → ℕ → List (List ℕ) → ℕ → ℕ → Type 0
IsReachedBy place width clue k levels level_then mask_then =
    IsLinked (λ level mask. IsLevelStep place width clue k level mask level_then mask_then) levels

-- the value k + 1 leads from this level and mask to some mask of the levels
abbrev pub LeadsToLevels : ℕ → ℕ → ℕ → ℕ → List (List ℕ) → ℕ → ℕ → Type 0
LeadsToLevels place width clue k levels level mask =
    IsLinked (λ level_then mask_then. IsLevelStep place width clue k level mask level_then mask_then) levels

-- a mask of the level that is in the set too
pub record IsCommon (levels : List (List ℕ)) (set : List ℕ) (level mask : ℕ) : Type 0 where
  pub here : has_at levels level mask ≡ true
  pub there : has_mask set mask ≡ true

-- the new levels have the masks of the old ones and those that are added, and no other
abbrev pub AreAdded : (ℕ → ℕ → Type 0) → List (List ℕ) → List (List ℕ) → Type 0
AreAdded Added old new =
    (level mask : ℕ) → (has_at new level mask ≡ true) ↔ ((has_at old level mask ≡ true) ⊎ Added level mask)

-- masks are added as in `AreAdded`, and `told` says whether there were any to add
pub record AreNoted (Added : ℕ → ℕ → Type 0) (old new : List (List ℕ)) (told : Bool) : Type 0 where
  pub added : AreAdded Added old new
  pub some : (told ≡ true) ↔ ((level : ℕ) × (mask : ℕ) × Added level mask)

-- a start with `place` values shows at most so many towers, and one or more if it has a value: so if its mask
-- has one, or its level is the last, where it has the greatest
pub record IsFew (clue place level mask : ℕ) : Type 0 where
  pub most : level ≤ place
  pub least : 0 < place → 0 < level
  pub some : (0 < mask) ⊎ (level ≡ clue) → 0 < level

-- each mask of the levels is at a level that `IsFew` allows
abbrev pub AreFew : ℕ → ℕ → List (List ℕ) → Type 0
AreFew clue place levels = (level mask : ℕ) → has_at levels level mask ≡ true → IsFew clue place level mask

-- some candidate leads from some mask of the levels to this level and mask
pub record IsReachedFrom (place width clue values : ℕ) (levels : List (List ℕ)) (level mask : ℕ) : Type 0 where
  pub k : ℕ
  pub inside : k < width
  pub candidate : has_number values (k + 1) ≡ true
  pub reached : IsReachedBy place width clue k levels level mask

-- `fronts` has the mask at this level, and the value k + 1 leads from it to some mask of `after`
pub record IsPassing (place width clue k : ℕ) (fronts after : List (List ℕ)) (level mask : ℕ) : Type 0 where
  pub low : level ≤ clue
  pub here : has_at fronts level mask ≡ true
  pub leads : LeadsToLevels place width clue k after level mask

-- `fronts` has the mask at this level, and some candidate leads from it to some mask of `after`
pub record IsPassed (place width clue values : ℕ) (fronts after : List (List ℕ)) (level mask : ℕ) : Type 0 where
  pub k : ℕ
  pub inside : k < width
  pub candidate : has_number values (k + 1) ≡ true
  pub passing : IsPassing place width clue k fronts after level mask

-- the value is a candidate that leads from some mask of `fronts` to some mask of `after`
pub record IsKeptBy (place width clue values : ℕ) (fronts after : List (List ℕ)) (value : ℕ) : Type 0 where
  pub k : ℕ
  pub is : value ≡ k + 1
  pub inside : k < width
  pub candidate : has_number values (k + 1) ≡ true
  pub level : ℕ
  pub mask : ℕ
  pub passing : IsPassing place width clue k fronts after level mask
