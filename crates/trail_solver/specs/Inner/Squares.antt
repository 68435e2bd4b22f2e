-- The squares of a grid in a search: settled, open, or kept to one value.
use Rattle.std.specs.Prelude.{◌≡◌, ◌≢◌, ℕ, ◌*◌, ◌<◌, ◌⊎◌, true, false}
use Rattle.latin_board.specs.Squares.{GridValue, IsGrid, number_at}
use Rattle.trail_solver.specs.Pairs.{IsPair}
use Rattle.trail_solver.specs.Candidates.{CandidatesValue, IsEarlier, IsOnly, may_be}
use Rattle.trail_solver.specs.declared.choice.Choice.{Choice}
use Rattle.trail_solver.specs.declared.choice.Choice.TheVariants.{Settled, Dead, Branch}

-- a square that hasn't just one candidate
pub record IsOpenSquare (c : CandidatesValue) (cell : ℕ) : Type 0 where
  pub inside : cell < c.size * c.size
  pub unsettled : (v : ℕ) → IsOnly c cell v → ⊥

-- the first square in reading order that hasn't just one candidate
pub record IsFirstOpen (c : CandidatesValue) (cell : ℕ) : Type 0 where
  pub is_open : IsOpenSquare c cell
  pub before : (k : ℕ) → k < cell → (v : ℕ) × IsOnly c k v

-- each square has just one candidate
pub record AreSettled (c : CandidatesValue) : Type 0 where
  pub each : (cell : ℕ) → cell < c.size * c.size → (v : ℕ) × IsOnly c cell v

-- an open square, and one of its candidates
pub record IsBranch (c : CandidatesValue) (cell value : ℕ) : Type 0 where
  pub pair : IsPair c.size cell value
  pub left : may_be c cell value ≡ true
  pub unsettled : IsOpenSquare c cell

-- a square that has no candidate
pub record HasNoCandidate (c : CandidatesValue) (cell : ℕ) : Type 0 where
  pub inside : cell < c.size * c.size
  pub none : (v : ℕ) → IsPair c.size cell v → may_be c cell v ≡ false

-- what a choice says of the squares
abbrev pub IsChoice : CandidatesValue → Choice → Type 0
IsChoice c Settled = AreSettled c
IsChoice c Dead = (cell : ℕ) × HasNoCandidate c cell
IsChoice c (Branch cell value) = IsBranch c cell value

-- each number of the grid is the only candidate of its square
pub record IsFilled (c : CandidatesValue) (g : GridValue) : Type 0 where
  pub is_grid : IsGrid g
  pub same_size : g.size ≡ c.size
  pub each : (cell : ℕ) → cell < c.size * c.size → IsOnly c cell (number_at g cell)

-- the new candidates are the old ones after all other values went from the cell
pub record KeepsOnly (old new : CandidatesValue) (cell value : ℕ) : Type 0 where
  pub less : IsEarlier old new
  pub others : (v : ℕ) → IsPair old.size cell v → v ≢ value → may_be new cell v ≡ false
  pub rest : (c v : ℕ) → (c ≢ cell) ⊎ (v ≡ value) → may_be new c v ≡ may_be old c v
