-- The pairs of a square and a value that are left of candidates. All that steps ask of candidates is asked of the pairs
-- that are left, so it holds of fewer candidates too.
use Rattle.std.specs.Prelude.{◌≡◌, ℕ, ◌<◌, ◌≤◌, true, List, [], ◌++◌, ◌*◌}
use Rattle.latin_board.specs.Lines.{line_cell}
use Rattle.trail_solver.specs.Pairs.{IsPair}
use Rattle.trail_solver.specs.Candidates.{CandidatesValue, may_be}

-- the value is one of the size's and still a candidate of the square
pub record IsLeft (c : CandidatesValue) (cell value : ℕ) : Type 0 where
  pub pair : IsPair c.size cell value
  pub may : may_be c cell value ≡ true

-- what is left of the second is left of the first
abbrev pub IsFewer : CandidatesValue → CandidatesValue → Type 0
IsFewer c d = (cell value : ℕ) → IsLeft d cell value → IsLeft c cell value

-- the same is left of both
abbrev pub AreAlike : CandidatesValue → CandidatesValue → Type 0
AreAlike c d = IsFewer c d × IsFewer d c

-- nothing but the value is left of the square
abbrev pub HasNoOther : CandidatesValue → ℕ → ℕ → Type 0
HasNoOther c cell value = (other : ℕ) → IsLeft c cell other → other ≡ value

-- the value is left in no place of the line but this one
abbrev pub HasNoOtherPlace : CandidatesValue → ℕ → ℕ → ℕ → Type 0
HasNoOtherPlace c line value index = (k : ℕ) → k < c.size → IsLeft c (line_cell c.size line k) value → k ≡ index

-- the candidates of a size from which nothing has gone yet: all pairs
abbrev pub all_of : ℕ → CandidatesValue
all_of w = record { size = w; trail = [] }

-- the candidates without some pairs
abbrev pub without : CandidatesValue → List (ℕ × ℕ) → CandidatesValue
without c pairs = record { size = c.size; trail = c.trail ++ pairs }

-- some square is left nothing
abbrev pub IsEmptied : CandidatesValue → Type 0
IsEmptied c = (cell : ℕ) × (cell < c.size * c.size) × ((value : ℕ) → IsLeft c cell value → ⊥)

-- something is left of each square, and each number of the size is left in each row and column
pub record IsLive (c : CandidatesValue) : Type 0 where
  pub cells : (cell : ℕ) → cell < c.size * c.size → (value : ℕ) × IsLeft c cell value
  pub lines : (line value : ℕ) → line < 2 * c.size → 1 ≤ value → value ≤ c.size
      → (k : ℕ) × (k < c.size) × IsLeft c (line_cell c.size line k) value
