-- The strikes of each reason from candidates.
use Rattle.std.specs.Prelude.{◌≡◌, ◌≢◌, ◌↔◌, ℕ, ◌*◌, ◌<◌, ◌≤◌, true, false, List, length, slice_index, count_ones}
use Rattle.number_sets.specs.Sets.{has_number}
use Rattle.latin_board.specs.Lines.{line_cell, ArePeers}
use Rattle.latin_board.specs.Squares.{GridValue}
use Rattle.trail_solver.specs.Pairs.{IsPair}
use Rattle.trail_solver.specs.Candidates.{CandidatesValue}
use Rattle.trail_solver.specs.Puzzles.{Puzzle}
use Rattle.line_steps.specs.Givens.{given_puzzle}
use Rattle.line_steps.specs.Views.{view_cell}
use Rattle.line_steps.specs.Left.{IsLeft, HasNoOther}
use Rattle.line_steps.specs.declared.reason.Reason.{Reason}
use Rattle.line_steps.specs.declared.reason.Reason.TheVariants.{Given, Peer, Place, Set}

-- which numbers reasons strike: a relation of candidates, a reason, a square and a number
abbrev pub Striking : Type 1
Striking = CandidatesValue → Reason → ℕ → ℕ → Type 0

-- ---- reasons of every game

-- the square has a given, and it is another value
pub record IsByGiven (p : Puzzle) (at cell value : ℕ) : Type 0 where
  pub here : cell ≡ at
  pub given : 0 < p.given at
  pub apart : value ≢ p.given at

-- nothing but the value is left of another square of the row or column
pub record IsByPeer (w : ℕ) (c : CandidatesValue) (by cell value : ℕ) : Type 0 where
  pub peers : ArePeers w by cell
  pub alone : HasNoOther c by value

-- another value is left in no place of the line but this square
pub record IsByPlace (w : ℕ) (c : CandidatesValue) (line index other cell value : ℕ) : Type 0 where
  pub line_is : line < 2 * w
  pub index_is : index < w
  pub low : 1 ≤ other
  pub high : other ≤ w
  pub here : cell ≡ line_cell w line index
  pub apart : value ≢ other
  pub alone : (k : ℕ) → k < w → IsLeft c (line_cell w line k) other → k ≡ index

-- some other squares of the line take as many values among them as they are, and the value is one of these
pub record IsBySet (w : ℕ) (c : CandidatesValue) (line squares values cell value : ℕ) : Type 0 where
  pub line_is : line < 2 * w
  pub inside : (k : ℕ) → has_number squares k ≡ true → k < w
  pub same : count_ones values ≡ count_ones squares
  pub among : (k v : ℕ) → has_number squares k ≡ true → IsLeft c (line_cell w line k) v → has_number values v ≡ true
  pub index : ℕ
  pub index_is : index < w
  pub here : cell ≡ line_cell w line index
  pub outside : has_number squares index ≡ false
  pub one : has_number values value ≡ true

-- what a reason of rows and columns strikes in a grid of this width
abbrev pub IsByLine : ℕ → CandidatesValue → Reason → ℕ → ℕ → Type 0
IsByLine w c (Peer by) cell value = IsByPeer w c by cell value
IsByLine w c (Place line index other) cell value = IsByPlace w c line index other cell value
IsByLine w c (Set line squares values) cell value = IsBySet w c line squares values cell value
IsByLine w c reason cell value = ⊥

-- what a reason strikes in a puzzle: a given, rows, columns and groups of squares as in every game, and a clue or a sign
-- as the game says
abbrev pub AllStrikes : Puzzle → Striking → CandidatesValue → Reason → ℕ → ℕ → Type 0
AllStrikes p Own c (Given at) cell value = IsByGiven p at cell value
AllStrikes p Own c (Peer by) cell value = IsByPeer p.size c by cell value
AllStrikes p Own c (Place line index other) cell value = IsByPlace p.size c line index other cell value
AllStrikes p Own c (Set line squares values) cell value = IsBySet p.size c line squares values cell value
AllStrikes p Own c reason cell value = Own c reason cell value

-- what the reasons of a game strike in its puzzles
abbrev pub StruckBy : {P : Type 0} → (P → Puzzle) → (P → Striking) → P → Striking
StruckBy puzzle own p = AllStrikes (puzzle p) (own p)

-- no clue and no sign strikes
abbrev pub NoneOwn : CandidatesValue → Reason → ℕ → ℕ → Type 0
NoneOwn c reason cell value = ⊥

-- what a reason strikes in a puzzle of givens alone
abbrev pub IsGivensStruckBy : GridValue → Striking
IsGivensStruckBy p = AllStrikes (given_puzzle p) NoneOwn

-- ---- many squares at once

-- the k-th of the first n sets has the values that are struck in the k-th square from a place at the edge
pub record AreStruckFrom (w : ℕ) (Struck : ℕ → ℕ → Type 0) (place n : ℕ) (row : List ℕ) : Type 0 where
  pub count : length row ≡ 9
  pub each : (k v : ℕ) → k < n → (has_number (slice_index row k) v ≡ true)
      ↔ (IsPair w (view_cell w place k) v × Struck (view_cell w place k) v)
