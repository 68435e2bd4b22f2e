-- The meaning of the two flags of a board, in the words of the moves since the last restart.
use Rattle.std.specs.Prelude.{◌≡◌, ◌↔◌, Bool, true, false, List, ◌∷◌, ◌++◌}
use Rattle.std.specs.List.{AllByRecursion}
use Rattle.latin_board.specs.Boards.{BoardValue, grid_of}
use Rattle.trail_solver.specs.Puzzles.{Puzzle, Solves}
use Rattle.play_midend.specs.declared.moves.Move.{Move}
use Rattle.play_midend.specs.declared.moves.Move.TheVariants.{Real, Solve}
use Rattle.play_midend.specs.Steps.{start_of, moved, replay_from, is_restart}
use Rattle.play_midend.specs.Histories.{History, IsValid, past, shown}

-- one of the moves, made in turn from the first board, is `such` where it was made, and no restart follows it
pub record StandsSinceRestart (p : Puzzle) (such : BoardValue → Move → Type 0) (first : BoardValue) (ms : List Move) : Type 0 where
  pub before : List Move
  pub made : Move
  pub after : List Move
  pub moves_are : ms ≡ before ++ made ∷ after
  pub is_such : such (replay_from p first before) made
  pub no_restart : AllByRecursion (λ m. is_restart m ≡ false) after

-- whether the move fills in a solution
abbrev pub fills_in : Move → Bool
fills_in (Solve g) = true
fills_in _ = false

-- whether the move writes a number, or those of a solution
abbrev pub writes_numbers : Move → Bool
writes_numbers (Real x y n) = true
writes_numbers (Solve g) = true
writes_numbers _ = false

-- the move writes numbers, and these solve the puzzle then
abbrev pub LeavesSolution : Puzzle → BoardValue → Move → Type 0
LeavesSolution p b m = (writes_numbers m ≡ true) × Solves p (grid_of (moved p b m))

-- the flag `cheated` is set just if a solution was filled in since the last restart, by `solve` or by a move
abbrev pub HelpIsFlagged : {P : Type 0} → (P → Puzzle) → Type 0
HelpIsFlagged {P} puzzle =
    (h : History P) → let p = puzzle h.puzzle in IsValid p h
    → ((shown p h).cheated ≡ true) ↔ StandsSinceRestart p (λ b m. fills_in m ≡ true) (start_of p) (past h)

-- the flag `completed` is set just if a number or a solution left the puzzle solved since the last restart
abbrev pub CompletionIsFlagged : {P : Type 0} → (P → Puzzle) → (P → Type 0) → Type 0
CompletionIsFlagged {P} puzzle of_game =
    (h : History P) → let p = puzzle h.puzzle in of_game h.puzzle → IsValid p h
    → ((shown p h).completed ≡ true) ↔ StandsSinceRestart p (LeavesSolution p) (start_of p) (past h)

-- where `cheated` is set, so is `completed`: the solution that was filled in left the puzzle solved
abbrev pub HelpCompletes : {P : Type 0} → (P → Puzzle) → Type 0
HelpCompletes {P} puzzle =
    (h : History P) → let p = puzzle h.puzzle in IsValid p h → (shown p h).cheated ≡ true → (shown p h).completed ≡ true
