-- The solutions of a puzzle: none, several, or just one; and what candidates keep of them.
use Rattle.std.specs.Prelude.{◌≡◌, ◌≢◌, ◌⊎◌}
use Rattle.latin_board.specs.Squares.{GridValue}
use Rattle.trail_solver.specs.Candidates.{CandidatesValue, IsWithin}
use Rattle.trail_solver.specs.Puzzles.{Puzzle, Solves}

-- no grid solves the puzzle
abbrev pub HasNoSolution : Puzzle → Type 0
HasNoSolution p = (g : GridValue) → Solves p g → ⊥

-- two different grids solve it
pub record HasSeveralSolutions (p : Puzzle) : Type 0 where
  pub one : GridValue
  pub other : GridValue
  pub one_solves : Solves p one
  pub other_solves : Solves p other
  pub differ : one ≢ other

-- the grid solves it, and no other grid does
pub record IsOnlySolution (p : Puzzle) (g : GridValue) : Type 0 where
  pub solves : Solves p g
  pub only : (h : GridValue) → Solves p h → h ≡ g

-- each solution within the old candidates is within the new ones
abbrev pub KeepsSolutions : Puzzle → CandidatesValue → CandidatesValue → Type 0
KeepsSolutions p old new = (g : GridValue) → Solves p g → IsWithin old g → IsWithin new g

-- no solution is within the candidates
abbrev pub HasNoSolutionWithin : Puzzle → CandidatesValue → Type 0
HasNoSolutionWithin p c = (g : GridValue) → Solves p g → IsWithin c g → ⊥

-- a solution within the candidates is another grid than this one
pub record HasOtherWithin (p : Puzzle) (c : CandidatesValue) (g : GridValue) : Type 0 where
  pub other : GridValue
  pub solves : Solves p other
  pub within : IsWithin c other
  pub differ : g ≢ other

-- each solution within the candidates is this grid
abbrev pub HasNoOtherWithin : Puzzle → CandidatesValue → GridValue → Type 0
HasNoOtherWithin p c g = (h : GridValue) → Solves p h → IsWithin c h → h ≡ g

-- what solves the denied puzzle within the new candidates solves the puzzle without an item; what solves
-- the latter within the old candidates solves the puzzle itself, or the denied one within the new candidates
pub record Denies (puzzle without denied : Puzzle) (old new : CandidatesValue) : Type 0 where
  pub some : (g : GridValue) → Solves denied g → IsWithin new g → Solves without g
  pub others : (g : GridValue) → Solves without g → IsWithin old g
      → Solves puzzle g ⊎ (Solves denied g × IsWithin new g)
