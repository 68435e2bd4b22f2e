-- The candidates of a puzzle's squares, as contracts see them.
use Rattle.std.specs.Prelude.{◌≡◌, ◌↔◌, ℕ, ◌*◌, ◌<◌, ◌≤◌, Bool, true, not, List}
use Rattle.latin_board.specs.Squares.{GridValue, number_at}
use Rattle.number_sets.specs.Sets.{has_number}
use Rattle.trail_solver.specs.Pairs.{IsPair, IsPrefix, AreApart, has_pair}

-- all pairs of the size are candidates, but for those that the trail lists in the order in which they went
pub record CandidatesValue : Type 0 where
  pub size : ℕ
  pub trail : List (ℕ × ℕ)

-- the pair is still a candidate
abbrev pub may_be : CandidatesValue → ℕ → ℕ → Bool
may_be c cell value = not (has_pair c.trail cell value)

-- what is so of all candidates: the trail is a list of the size's pairs without repeats
pub record IsCandidates (c : CandidatesValue) : Type 0 where
  pub smallest : 3 ≤ c.size
  pub largest : c.size ≤ 9
  pub in_range : (cell value : ℕ) → has_pair c.trail cell value ≡ true → IsPair c.size cell value
  pub apart : AreApart c.trail

-- the set is that of the cell's candidates
abbrev pub IsSetOf : CandidatesValue → ℕ → ℕ → Type 0
IsSetOf c cell set = (v : ℕ) → (has_number set v ≡ true) ↔ (IsPair c.size cell v × (may_be c cell v ≡ true))

-- each number of the set is a candidate of the cell
abbrev pub AreCandidates : CandidatesValue → ℕ → ℕ → Type 0
AreCandidates c cell set = (v : ℕ) → has_number set v ≡ true → IsPair c.size cell v × (may_be c cell v ≡ true)

-- the value is the cell's only candidate
pub record IsOnly (c : CandidatesValue) (cell value : ℕ) : Type 0 where
  pub low : 1 ≤ value
  pub high : value ≤ c.size
  pub left : may_be c cell value ≡ true
  pub alone : (other : ℕ) → 1 ≤ other → other ≤ c.size → may_be c cell other ≡ true → other ≡ value

-- each number of the grid is a candidate of its square
pub record IsWithin (c : CandidatesValue) (g : GridValue) : Type 0 where
  pub each : (cell : ℕ) → cell < c.size * c.size → may_be c cell (number_at g cell) ≡ true

-- the later candidates are the earlier ones after more pairs went, or none
pub record IsEarlier (earlier later : CandidatesValue) : Type 0 where
  pub size : later.size ≡ earlier.size
  pub adds : IsPrefix earlier.trail later.trail
