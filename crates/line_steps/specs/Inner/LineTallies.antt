-- The values that are left of the squares of a row or column, counted over all of them.
use Rattle.std.specs.Prelude.{◌≡◌, ◌≢◌, ◌↔◌, ℕ, ◌<◌, ◌≤◌, ◌⊎◌, true, false, not, ◌&&◌}
use Rattle.number_sets.specs.Sets.{has_number, IsSingle}
use Rattle.latin_board.specs.Lines.{line_cell}
use Rattle.trail_solver.specs.Candidates.{CandidatesValue}
use Rattle.line_steps.specs.Left.{IsLeft}
use Rattle.line_steps.specs.Inner.LineStrikes.{IsAlone}
use Rattle.line_steps.specs.declared.lines.latin.LineTally.{LineTally}

-- the tally of the first n squares of a line: which values are left of one of them, of two, and alone in one; something
-- is left of each, and no value is alone in two
pub record AreTallied (c : CandidatesValue) (line n : ℕ) (t : LineTally) : Type 0 where
  pub once : (v : ℕ) → (has_number t.once v ≡ true) ↔ ((k : ℕ) × (k < n) × IsLeft c (line_cell c.size line k) v)
  pub twice : (v : ℕ) → (has_number t.twice v ≡ true)
      ↔ ((j : ℕ) × (k : ℕ) × (j < k) × (k < n) × IsLeft c (line_cell c.size line j) v
      × IsLeft c (line_cell c.size line k) v)
  pub singles : (v : ℕ) → (has_number t.singles v ≡ true) ↔ ((k : ℕ) × (k < n) × IsAlone c (line_cell c.size line k) v)
  pub some : (k : ℕ) → k < n → (v : ℕ) × IsLeft c (line_cell c.size line k) v
  pub apart : (j k v : ℕ) → j < k → k < n → IsAlone c (line_cell c.size line j) v
      → IsAlone c (line_cell c.size line k) v → ⊥

-- the tally of a whole line: each value is left of one of the squares
pub record IsTallyOf (line : ℕ) (c : CandidatesValue) (t : LineTally) : Type 0 where
  pub tally : AreTallied c line c.size t
  pub placed : (v : ℕ) → 1 ≤ v → v ≤ c.size → has_number t.once v ≡ true

-- new is the tally with one set more
pub record IsCounted (old : LineTally) (set : ℕ) (new : LineTally) : Type 0 where
  pub once : (v : ℕ) → (has_number new.once v ≡ true) ↔ ((has_number old.once v ≡ true) ⊎ (has_number set v ≡ true))
  pub twice : (v : ℕ)
      → (has_number new.twice v ≡ true)
      ↔ ((has_number old.twice v ≡ true) ⊎ ((has_number old.once v ≡ true) × (has_number set v ≡ true)))
  pub singles : (v : ℕ) → (has_number new.singles v ≡ true) ↔ ((has_number old.singles v ≡ true) ⊎ IsSingle set v)
  pub some : (v : ℕ) × (has_number set v ≡ true)
  pub fresh : (v : ℕ) → IsSingle set v → has_number old.singles v ≡ false

-- a set's only value is alone in an earlier one
pub record IsAloneBefore (t : LineTally) (set : ℕ) : Type 0 where
  pub value : ℕ
  pub here : IsSingle set value
  pub before : has_number t.singles value ≡ true

-- the values that are left of just one square are those that are alone in one
abbrev pub IsQuietTally : LineTally → Type 0
IsQuietTally t = (v : ℕ) → (has_number t.once v && not (has_number t.twice v)) ≡ has_number t.singles v

-- the value is left of just one square
pub record IsHidden (t : LineTally) (value : ℕ) : Type 0 where
  pub once : has_number t.once value ≡ true
  pub lone : has_number t.twice value ≡ false

-- the values of a square's set that are left of no other square
pub record IsForced (t : LineTally) (set forced : ℕ) : Type 0 where
  pub is : (u : ℕ) → has_number forced u ≡ ((has_number set u && has_number t.once u) && not (has_number t.twice u))

-- the values of a square's set that are alone in no square
pub record IsFree (t : LineTally) (set free : ℕ) : Type 0 where
  pub is : (v : ℕ) → has_number free v ≡ (has_number set v && not (has_number t.singles v))

-- the value of a square's set can't stay: it is alone in another square, or another value of the set has its one place
-- here
abbrev pub Goes : LineTally → ℕ → ℕ → Type 0
Goes t set v =
    ((has_number t.singles v ≡ true) × (IsSingle set v → ⊥))
    ⊎ ((u : ℕ) × (has_number set u ≡ true) × IsHidden t u × (v ≢ u))

-- the values of a square's set that can stay
pub record IsKeptOf (t : LineTally) (set kept : ℕ) : Type 0 where
  pub only : (v : ℕ) → has_number kept v ≡ true → (has_number set v ≡ true) × (Goes t set v → ⊥)
  pub rest : (v : ℕ) → has_number set v ≡ true → has_number kept v ≡ false → Goes t set v
