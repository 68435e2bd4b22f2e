-- The strikes of the squares of a row or column in one another, and the lines that can't hold their numbers.
use Rattle.std.specs.Prelude.{◌≡◌, ◌≢◌, ℕ, ◌<◌, ◌≤◌, ◌⊎◌, true, false}
use Rattle.number_sets.specs.Sets.{has_number}
use Rattle.latin_board.specs.Lines.{line_cell}
use Rattle.trail_solver.specs.Pairs.{IsPair}
use Rattle.trail_solver.specs.Candidates.{CandidatesValue, may_be}
use Rattle.line_steps.specs.Left.{IsLeft, HasNoOther, HasNoOtherPlace}
use Rattle.line_steps.specs.Takes.{Takes, AreChanged}

-- nothing but the value is left of another square of the line, or another value has no other place in it
abbrev pub IsByRest : CandidatesValue → ℕ → ℕ → ℕ → Type 0
IsByRest c line index v =
    ((k : ℕ) × (k < c.size) × (k ≢ index) × HasNoOther c (line_cell c.size line k) v)
    ⊎ ((u : ℕ) × (1 ≤ u) × (u ≤ c.size) × (v ≢ u) × HasNoOtherPlace c line u index)

-- the rest of the line strikes the value in the square, and it is left there
abbrev pub IsLeftByRest : CandidatesValue → ℕ → ℕ → ℕ → Type 0
IsLeftByRest c line index v = IsByRest c line index v × IsLeft c (line_cell c.size line index) v

-- nothing is left of what the squares of the line strike in one another
abbrev pub IsRestQuiet : ℕ → CandidatesValue → Type 0
IsRestQuiet line c =
    (k v : ℕ) → k < c.size → IsPair c.size (line_cell c.size line k) v → IsByRest c line k v
    → may_be c (line_cell c.size line k) v ≡ false

-- something is left of each square of the line, and each number of the size of one of them
pub record IsLiveLine (line : ℕ) (c : CandidatesValue) : Type 0 where
  pub some : (k : ℕ) → k < c.size → (v : ℕ) × IsLeft c (line_cell c.size line k) v
  pub placed : (v : ℕ) → 1 ≤ v → v ≤ c.size → (k : ℕ) × (k < c.size) × IsLeft c (line_cell c.size line k) v

-- something is left of each square and number of the line, and its squares strike nothing in one another
pub record IsLineSettled (line : ℕ) (c : CandidatesValue) : Type 0 where
  pub live : IsLiveLine line c
  pub quiet : IsRestQuiet line c

-- new is old without what the line's squares strike in one another; that went at these places of the line
pub record StrikesRest (line places : ℕ) (old new : CandidatesValue) : Type 0 where
  pub takes : Takes
      (λ cell v. (k : ℕ) × (k < old.size) × (cell ≡ line_cell old.size line k) × IsLeftByRest old line k v) old new
  pub changed : AreChanged line places old new

-- ---- lines that can't hold their numbers

-- the value, and nothing but it, is left of the square
pub record IsAlone (c : CandidatesValue) (cell value : ℕ) : Type 0 where
  pub left : IsLeft c cell value
  pub alone : HasNoOther c cell value

-- all that is left at these places is struck by the line's other squares, and there is such a place
pub record IsDead (line places : ℕ) (c : CandidatesValue) : Type 0 where
  pub place : ℕ
  pub low : place < c.size
  pub has : has_number places place ≡ true
  pub struck : (k v : ℕ) → k < c.size → has_number places k ≡ true → IsLeft c (line_cell c.size line k) v → IsByRest c line k v
