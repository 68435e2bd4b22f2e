-- An exchange with one change made twice leaves everything as it was, and what an exchange keeps.
use Rattle.std.proofs.lemmas.Bool.Decides.{nat_tests}
use Rattle.std.proofs.Common.{◌≡◌, ℕ, List, get_or, set, arith}
use Rattle.std.proofs.lemmas.List.{set-set, set-get_or, get_or-set_same}
use Rattle.latin_board.specs.Boards.{BoardValue, IsBoard}
use Rattle.latin_board.specs.Changes.{ChangeValue, FitsBoard, board_after, change_after}

restored : (xs : List ℕ) (i x : ℕ) → set (set xs i x) i (get_or xs i 0) ≡ xs
restored xs i x = rw (set-set xs i x (get_or xs i 0)) (set-get_or xs i 0)

-- the change that an exchange leaves brings the board back
pub board_restored : (b : BoardValue) (change : ChangeValue) → board_after (board_after b change) (change_after b change) ≡ b
board_restored b change = grind (arith, nat_tests, restored)

-- after the second exchange the change is what it was
pub change_restored : (b : BoardValue) (change : ChangeValue) → IsBoard b → FitsBoard b change
    → change_after (board_after b change) (change_after b change) ≡ change
change_restored b change valid fits = grind (arith, nat_tests, get_or-set_same)

-- after an exchange the change fits the board, so that they can be exchanged again
pub fits_after : (b : BoardValue) (change : ChangeValue) → IsBoard b → FitsBoard b change
    → FitsBoard (board_after b change) (change_after b change)
fits_after b change valid fits = grind (arith, nat_tests)
