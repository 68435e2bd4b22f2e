-- Groups of a line's squares, and what they strike.
use Rattle.std.specs.Prelude.{◌≡◌, ◌≢◌, ℕ, ◌<◌, ◌^◌, true, false, List, slice_index, count_ones}
use Rattle.number_sets.specs.Sets.{has_number, IsSubset}
use Rattle.latin_board.specs.Lines.{line_cell}
use Rattle.trail_solver.specs.Pairs.{IsPair}
use Rattle.trail_solver.specs.Candidates.{CandidatesValue, may_be}
use Rattle.line_steps.specs.Left.{IsLeft}

-- the values that are left of some of a line's squares
pub record IsUnion (w : ℕ) (c : CandidatesValue) (line squares union : ℕ) : Type 0 where
  pub all : (k v : ℕ) → has_number squares k ≡ true → IsLeft c (line_cell w line k) v → has_number union v ≡ true
  pub only : (v : ℕ) → has_number union v ≡ true
      → (k : ℕ) × (has_number squares k ≡ true) × IsLeft c (line_cell w line k) v

-- two values are left of the square, or more
abbrev pub HasSeveral : CandidatesValue → ℕ → Type 0
HasSeveral c cell = (u : ℕ) × (v : ℕ) × (u ≢ v) × IsLeft c cell u × IsLeft c cell v

-- a group of the line's squares has several values left of each, and of all together as many as it has
-- squares; the square is another one of the line, and the value is one of the group's
pub record IsByGroup (c : CandidatesValue) (line cell value : ℕ) : Type 0 where
  pub squares : ℕ
  pub below : squares < 2 ^ c.size
  pub several : (k : ℕ) → has_number squares k ≡ true → HasSeveral c (line_cell c.size line k)
  pub union : ℕ
  pub is : IsUnion c.size c line squares union
  pub same : count_ones union ≡ count_ones squares
  pub index : ℕ
  pub index_is : index < c.size
  pub outside : has_number squares index ≡ false
  pub here : cell ≡ line_cell c.size line index
  pub one : has_number union value ≡ true

-- nothing is left of what groups of the line's squares strike
abbrev pub IsGroupQuiet : ℕ → CandidatesValue → Type 0
IsGroupQuiet line c =
    (cell value : ℕ) → IsPair c.size cell value → IsByGroup c line cell value → may_be c cell value ≡ false

-- the union has the numbers of the sets at these places, and no others
pub record IsUnionOf (sets : List ℕ) (squares union : ℕ) : Type 0 where
  pub all : (k v : ℕ) → has_number squares k ≡ true → has_number (slice_index sets k) v ≡ true
      → has_number union v ≡ true
  pub only : (v : ℕ) → has_number union v ≡ true
      → (k : ℕ) × (has_number squares k ≡ true) × (has_number (slice_index sets k) v ≡ true)

-- the group is of some of these squares, and their sets have as many numbers together as it has squares
pub record IsGroupOf (sets : List ℕ) (several group union : ℕ) : Type 0 where
  pub within : IsSubset group several
  pub is : IsUnionOf sets group union
  pub same : count_ones union ≡ count_ones group

-- some group whose number is below the bound has the value in one of its sets, and has not the square k
abbrev pub IsStruckBelow : List ℕ → ℕ → ℕ → ℕ → ℕ → Type 0
IsStruckBelow sets several bound k v =
    (group : ℕ) × (union : ℕ) × (group < bound) × IsGroupOf sets several group union × (has_number group k ≡ false)
    × (has_number union v ≡ true)

-- ---- one group

-- nothing but the values is left of the line's squares
abbrev pub AreAmong : CandidatesValue → ℕ → ℕ → ℕ → Type 0
AreAmong c line squares values =
    (k v : ℕ) → has_number squares k ≡ true → IsLeft c (line_cell c.size line k) v → has_number values v ≡ true

-- the square is one of the line's, and none of these
abbrev pub IsOther : ℕ → ℕ → ℕ → ℕ → Type 0
IsOther w line squares cell =
    (index : ℕ) × (index < w) × (cell ≡ line_cell w line index) × (has_number squares index ≡ false)
