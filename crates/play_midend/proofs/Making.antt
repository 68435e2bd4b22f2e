-- A change that makes a move on a board takes it back when it is exchanged once more.
use Rattle.std.proofs.Common.{arith}
use Rattle.std.proofs.lemmas.Bool.Decides.{nat_tests}
use Rattle.std.proofs.Common.{◌≡◌, None, Ok, ap}
use Rattle.latin_board.specs.Boards.{BoardValue, IsBoard}
use Rattle.latin_board.specs.Changes.{ChangeValue, FitsBoard, board_after}
use Rattle.latin_board.proofs.Exchanges.{board_restored, change_restored, fits_after}
use Rattle.trail_solver.specs.Puzzles.{Puzzle}
use Rattle.play_midend.specs.declared.moves.Move.{Move}
use Rattle.play_midend.specs.Steps.{refusal_of, unless_refused, moved, step, Makes}

-- a move that isn't refused is made
pub step_allowed : (p : Puzzle) (b : BoardValue) (m : Move) → refusal_of p b m ≡ None → step p b m ≡ Ok (moved p b m)
step_allowed p b m allowed = ap (λ o. unless_refused o (moved p b m)) allowed

-- a change that fits, and leaves the board with the move, makes the move and takes it back
pub makes : (p : Puzzle) (b : BoardValue) (m : Move) (change : ChangeValue) → IsBoard b → refusal_of p b m ≡ None → FitsBoard b change
    → board_after b change ≡ moved p b m → Makes p b m change
makes p b m change valid allowed fits board =
    grind (arith, nat_tests, step_allowed, fits_after, board_restored, change_restored)

-- what the prover's search has to know of changes
pub ruleset changes = (makes, step_allowed, board_restored, change_restored, fits_after)
