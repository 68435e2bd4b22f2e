-- Headings: the names of steps and hints, by which a learner meets them again.
use Rattle.std.specs.Prelude.{◌≡◌, ◌⊎◌, ℕ, ◌==◌, ◌%◌, ◌*◌, ◌+◌, ◌^◌, ◌&&◌, ◌||◌, Bool, true, not, nat_lt, List, codes, if◌then◌else◌, Option, Some, None, slice_index}
use Rattle.std.specs.List.{list_all, range_with_len}
use Rattle.number_sets.specs.Sets.{has_number}
use Rattle.line_steps.specs.declared.reason.Reason.{Reason}
use Rattle.line_steps.specs.declared.reason.Reason.TheVariants.{Given, Peer, Place, Bound, Stand, Clue, Sign, Set}
use Rattle.named_steps.specs.declared.goal.Goal.{Goal}
use Rattle.named_steps.specs.declared.goal.Goal.TheVariants.{OnlyValue, OnlyPlace}
use Rattle.step_texts.specs.declared.dead_ends.DeadEnd.{DeadEnd}
use Rattle.step_texts.specs.declared.dead_ends.DeadEnd.TheVariants.{Square, Line}
use Rattle.step_texts.specs.declared.headings.Beside.{Beside}
use Rattle.step_texts.specs.declared.headings.Beside.TheVariants.{Below, Above, Nowhere}
use Rattle.step_texts.specs.declared.told.Strike.{Strike}
use Rattle.step_texts.specs.declared.told.ToldStep.{ToldStep}

-- ---- counts of towers beside a clue, as sets

-- there are counts, and all are below the clue; or there are some, and all are above it; or there are none. A set is less
-- than 2 ^ n if all that it has is less than n, and a multiple of 2 ^ n if all that it has is n or more.
abbrev pub are_beside : Beside → ℕ → ℕ → Bool
are_beside Below clue counts = nat_lt 0 counts && nat_lt counts (2 ^ clue)
are_beside Above clue counts = nat_lt 0 counts && (counts % 2 ^ (clue + 1) == 0)
are_beside Nowhere clue counts = counts == 0

-- the test holds of the counts with each of these numbers
abbrev pub numbers_pass : (ℕ → Bool) → ℕ → List ℕ → Bool
numbers_pass test values shows =
    list_all (λ n. not (has_number values n) || test (slice_index shows n)) (range_with_len 1 9)

-- the test holds of all counts that are told of a strike
abbrev pub shows_pass : (ℕ → Bool) → ℕ → Option (List ℕ) → Bool
shows_pass test values None = true
shows_pass test values (Some shows) = numbers_pass test values shows

-- the test holds of all counts that are told of strikes
abbrev pub strikes_pass : (ℕ → Bool) → List Strike → Bool
strikes_pass test strikes = list_all (λ strike. shows_pass test strike.values strike.shows) strikes

-- ---- names

-- the name of a step by a clue, from the towers that would be seen
abbrev pub beside_name : ℕ → List Strike → List ℕ
beside_name clue strikes =
    if strikes_pass (are_beside Below clue) strikes then codes "Too few towers"
    else (if strikes_pass (are_beside Above clue) strikes then codes "Too many towers"
    else (if strikes_pass (are_beside Nowhere clue) strikes then codes "A number in no order"
    else codes "Too few or too many towers"))

-- the name of a step by a clue on a board of a width: by the clue alone if it is 1 or the width
abbrev pub clue_name : ℕ → ℕ → List Strike → List ℕ
clue_name w clue strikes =
    if clue == 1 then codes "A clue 1"
    else (if clue == w then codes "A clue of the board's size" else beside_name clue strikes)

-- the clue at a place, by the clues at those of the edge; 0 at any other
abbrev pub clue_at : ℕ → (ℕ → ℕ) → ℕ → ℕ
clue_at w clue place = if nat_lt place (4 * w) then clue place else 0

-- the name of a step that strikes for a reason, on a board of a width with these clues
abbrev pub name_by : ℕ → (ℕ → ℕ) → Reason → List Strike → List ℕ
name_by w clue (Given cell) strikes = codes "A number that a square takes"
name_by w clue (Peer cell) strikes = codes "A number that a square takes"
name_by w clue (Place line index value) strikes = codes "The only square for a number"
name_by w clue (Bound place) strikes = clue_name w (clue_at w clue place) strikes
name_by w clue (Stand place) strikes = clue_name w (clue_at w clue place) strikes
name_by w clue (Clue place) strikes = clue_name w (clue_at w clue place) strikes
name_by w clue (Sign from to) strikes = codes "A sign"
name_by w clue (Set line squares values) strikes = codes "Squares that share numbers"

-- the name of a told step
abbrev pub step_name : ℕ → (ℕ → ℕ) → ToldStep → List ℕ
step_name w clue told = name_by w clue told.reason told.strikes.items

-- ---- hints

-- a name of a number that steps show: by which form of sentence it is told
abbrev pub IsGoalName : Goal → List ℕ → Type 0
IsGoalName (OnlyValue cell value) name =
    (name ≡ codes "The last free square") ⊎ (name ≡ codes "The only number left") ⊎ (name ≡ codes "The only mark left")
IsGoalName (OnlyPlace line index value) name = name ≡ codes "The only square left"

-- a name of a contradiction that ends there
abbrev pub IsEndName : DeadEnd → List ℕ → Type 0
IsEndName (Square cell) name =
    (name ≡ codes "A square without a number") ⊎ (name ≡ codes "A square whose marks are too few")
IsEndName (Line line value) name = name ≡ codes "A number without a square"
