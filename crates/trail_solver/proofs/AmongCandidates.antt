-- Which solutions are among candidates as these change.
use Rattle.std.proofs.Common.{arith}
use Rattle.std.proofs.lemmas.Bool.Decides.{nat_tests}
use Rattle.std.proofs.Common.{◌≡◌, ◌≢◌, ℕ, ◌*◌, ◌<◌, false}
use Rattle.latin_board.specs.Squares.{GridValue}
use Rattle.trail_solver.specs.Candidates.{CandidatesValue, IsEarlier, may_be}
use Rattle.trail_solver.specs.Inner.Squares.{IsFilled, KeepsOnly}
use Rattle.trail_solver.specs.Puzzles.{Puzzle, Solves}
use Rattle.trail_solver.specs.Solutions.{KeepsSolutions, HasOtherWithin}
use Rattle.trail_solver.specs.Inner.Among.{IsAmong, IsAmongAt}
use Rattle.trail_solver.proofs.Earlier.{within_earlier}
use Rattle.trail_solver.proofs.FilledGrids.{solution_pair, only_filled}
use Rattle.trail_solver.proofs.OneKept.{within_one_kept, value_one_kept}

-- a solution among later candidates is among earlier ones
pub among_earlier : (p : Puzzle) (old new : CandidatesValue) → IsEarlier old new → (h : GridValue) → IsAmong p new h → IsAmong p old h
among_earlier p old new less h s = (s.0, within_earlier old new h less s.1)

-- a solution among the candidates stays among them where narrowing loses none
pub among_narrowed : (p : Puzzle) (old new : CandidatesValue) → KeepsSolutions p old new
    → (h : GridValue) → IsAmong p old h → IsAmong p new h
among_narrowed p old new keeps h s = (s.0, keeps h s.0 s.1)

-- a solution among the candidates after a cell kept one value was among them before, with the value there
pub at_from_kept : (p : Puzzle) (old kept : CandidatesValue) (cell value : ℕ) → old.size ≡ p.size → KeepsOnly old kept cell value
    → cell < old.size * old.size → (h : GridValue) → IsAmong p kept h → IsAmongAt p old cell value h
at_from_kept p old kept cell value size k inside h s =
    let pair = solution_pair p h old.size cell s.0 size inside in
    (s.0, (within_earlier old kept h k.less s.1, value_one_kept old kept cell value h k pair s.1))

-- a solution among the candidates that has the value in the cell stays among them if the cell keeps that
pub kept_from_at : (p : Puzzle) (old kept : CandidatesValue) (cell value : ℕ) → KeepsOnly old kept cell value → (h : GridValue)
    → IsAmongAt p old cell value h → IsAmong p kept h
kept_from_at p old kept cell value k h s = (s.0, within_one_kept old kept cell value h k s.1.0 s.1.1)

-- no solution among the candidates has a value in a cell from which it is gone
pub none_at_gone : (p : Puzzle) (c : CandidatesValue) (cell value : ℕ) → cell < c.size * c.size → may_be c cell value ≡ false
    → (h : GridValue) → IsAmongAt p c cell value h → ⊥
none_at_gone p c cell value inside gone h s = grind (arith, nat_tests)

-- where each square is settled, and the grid of the candidates is no solution, none is among them
pub none_where_filled : (p : Puzzle) (c : CandidatesValue) (g : GridValue) → c.size ≡ p.size → IsFilled c g → (Solves p g → ⊥)
    → (h : GridValue) → IsAmong p c h → ⊥
none_where_filled p c g size filled n h m = grind (arith, nat_tests, only_filled)

-- a solution among the candidates that differs from the known grid is another one
pub other_among : (p : Puzzle) (c : CandidatesValue) (g first second : GridValue) → first ≡ g → IsAmong p c second → first ≢ second
    → HasOtherWithin p c g
other_among p c g first second same among differ = grind (arith, nat_tests)
