-- The list of all reasons that may strike something, part by part: which reason is found at which place.
use Rattle.std.specs.Prelude.{◌≡◌, ℕ, ◌+◌, ◌*◌, ◌^◌, ◌<◌, ◌⊎◌, count_ones, Option, Some}
use Rattle.trail_solver.specs.Candidates.{CandidatesValue}
use Rattle.line_steps.specs.Inner.Groups.{IsUnion}
use Rattle.line_steps.specs.declared.reason.Reason.{Reason}
use Rattle.line_steps.specs.declared.reason.Reason.TheVariants.{Given, Peer, Place, Bound, Stand, Clue, Sign, Set}
use Rattle.step_chains.specs.declared.reasons.Part.{Part}
use Rattle.step_chains.specs.declared.reasons.Part.TheVariants.{Squares, Places, Clues, Signs, Groups}

-- the place of a sign: a square has four, for signs from above, from the left, from the right and from below
abbrev pub IsSignAt : ℕ → ℕ → ℕ → ℕ → Type 0
IsSignAt w place from to =
    ((place ≡ 4 * to) × (from + w ≡ to)) ⊎ (((place ≡ 4 * to + 1) × (from + 1 ≡ to))
    ⊎ (((place ≡ 4 * to + 2) × (from ≡ to + 1)) ⊎ ((place ≡ 4 * to + 3) × (from ≡ to + w))))

-- these values are all that is left of some squares of a line, and are as many as the squares
abbrev pub IsGroup : CandidatesValue → ℕ → ℕ → ℕ → Type 0
IsGroup c line squares values = IsUnion c.size c line squares values × (count_ones values ≡ count_ones squares)

-- how many places a part of the list has
abbrev pub place_count : ℕ → Part → ℕ
place_count w Squares = 2 * (w * w)
place_count w Places = 2 * w * (w * w)
place_count w Clues = 12 * w
place_count w Signs = 4 * (w * w)
place_count w Groups = 2 * w * 2 ^ w

-- the reason that is found at a place of a part of the list: a given or a square as a peer, a value in a place
-- of a line, a clue in one of three ways, a sign, or a group
abbrev pub IsFoundAt : CandidatesValue → Part → ℕ → Option Reason → Type 0
IsFoundAt c Squares place found =
    ((cell : ℕ) → place ≡ 2 * cell → found ≡ Some (Given cell))
    × ((cell : ℕ) → place ≡ 2 * cell + 1 → found ≡ Some (Peer cell))
IsFoundAt c Places place found =
    (line index other : ℕ) → index < c.size → other < c.size → place ≡ (line * c.size + index) * c.size + other
    → found ≡ Some (Place line index (other + 1))
IsFoundAt c Clues place found =
    ((at : ℕ) → place ≡ 3 * at → found ≡ Some (Bound at))
    × (((at : ℕ) → place ≡ 3 * at + 1 → found ≡ Some (Stand at))
    × ((at : ℕ) → place ≡ 3 * at + 2 → found ≡ Some (Clue at)))
IsFoundAt c Signs place found = (from to : ℕ) → IsSignAt c.size place from to → found ≡ Some (Sign from to)
IsFoundAt c Groups place found =
    (line squares values : ℕ) → line < 2 * c.size → squares < 2 ^ c.size → place ≡ line * 2 ^ c.size + squares
    → IsGroup c line squares values → found ≡ Some (Set line squares values)
