-- A Latin square makes pairs in three ways: of the places of a line with the values there, and of the rows
-- with the columns of a value.
use Rattle.std.specs.Prelude.{◌≡◌, ◌≢◌, ℕ, ◌+◌, ◌*◌, ◌<◌, ◌≤◌, Bool, true, false, List, slice_index}
use Rattle.std.specs.Bool.{OnFalse}
use Rattle.latin_board.specs.Squares.{GridValue, IsGrid, IsLatin, number_at}
use Rattle.latin_board.specs.Lines.{line_cell}
use Rattle.number_sets.specs.Sets.{has_number}
use Rattle.trail_solver.specs.Candidates.{CandidatesValue, IsEarlier, IsWithin, may_be}
use Rattle.trail_solver.specs.declared.pairing.Pairing.{Pairing}
use Rattle.trail_solver.specs.declared.pairing.Pairing.TheVariants.{Line, Value}

-- the line is one of the grid's, or the value one of its numbers
abbrev pub IsPairing : ℕ → Pairing → Type 0
IsPairing w (Line line) = line < 2 * w
IsPairing w (Value value) = (1 ≤ value) × (value ≤ w)

-- the square where a left has a right: a place of the line, or a row's place in a column
abbrev pub pair_cell : ℕ → Pairing → ℕ → ℕ → ℕ
pair_cell w (Line line) left right = line_cell w line left
pair_cell w (Value value) left right = line_cell w left right

-- the value that it then has: the rights of a line's place are its values less 1
abbrev pub pair_value : Pairing → ℕ → ℕ
pair_value (Line line) right = right + 1
pair_value (Value value) right = value

-- the left may have the right
abbrev pub MayPair : CandidatesValue → Pairing → ℕ → ℕ → Type 0
MayPair c pairing left right = may_be c (pair_cell c.size pairing left right) (pair_value pairing right) ≡ true

-- each left's set has all rights that it may have
pub record Covers (c : CandidatesValue) (pairing : Pairing) (sides : List ℕ) : Type 0 where
  pub each : (left right : ℕ) → left < c.size → right < c.size → MayPair c pairing left right
      → has_number (slice_index sides left) right ≡ true

-- the crowd is of lefts, and all rights that these may have are among the rights
pub record IsCrowd (c : CandidatesValue) (pairing : Pairing) (crowd rights : ℕ) : Type 0 where
  pub lefts : (left : ℕ) → has_number crowd left ≡ true → left < c.size
  pub all : (left right : ℕ) → has_number crowd left ≡ true → right < c.size → MayPair c pairing left right
      → has_number rights right ≡ true

-- a Latin square of the candidates' size whose numbers are all candidates
pub record IsLatinWithin (c : CandidatesValue) (g : GridValue) : Type 0 where
  pub is_grid : IsGrid g
  pub same_size : g.size ≡ c.size
  pub latin : IsLatin g
  pub within : IsWithin c g

-- in this grid the left has none of the rights
pub record LacksRights (w : ℕ) (pairing : Pairing) (left rights : ℕ) (g : GridValue) : Type 0 where
  pub each : (right : ℕ) → right < w → has_number rights right ≡ true
      → number_at g (pair_cell w pairing left right) ≢ pair_value pairing right

-- in no Latin square of the candidates a left outside the crowd has one of the rights
pub record OthersLack (c : CandidatesValue) (pairing : Pairing) (crowd rights : ℕ) : Type 0 where
  pub each : (g : GridValue) → IsLatinWithin c g → (left : ℕ) → left < c.size → has_number crowd left ≡ false
      → LacksRights c.size pairing left rights g

-- pairs went that no Latin square of the candidates has; false tells that there is none
pub record NarrowsLatin (old new : CandidatesValue) (result : Bool) : Type 0 where
  pub less : IsEarlier old new
  pub keeps : (g : GridValue) → IsLatinWithin old g → IsWithin new g
  pub refutes : OnFalse result ((g : GridValue) → IsLatinWithin old g → ⊥)
