-- A solution that was filled in is the last move of the session, and what the board shows.
use Rattle.std.proofs.Common.{◌≡◌, ℕ, ◌+◌, ◌-◌, List, [], ◌∷◌, ◌++◌, length, Result, Ok, Err, OnOk, None, refl, sym, ap, ◌∙◌, subst, arith, length-append, inl, inr}
use Rattle.std.proofs.lemmas.List.{get_or_push, length-take-le, take_all}
use Rattle.std.proofs.lemmas.Option.{slice_get_read}
use Rattle.latin_board.specs.Squares.{GridValue}
use Rattle.latin_board.specs.Boards.{grid_of}
use Rattle.trail_solver.specs.Puzzles.{Puzzle}
use Rattle.trail_solver.specs.Solutions.{IsOnlySolution}
use Rattle.play_midend.specs.declared.fault.PlayFault.{PlayFault}
use Rattle.play_midend.specs.declared.moves.Move.{Move}
use Rattle.play_midend.specs.declared.moves.Move.TheVariants.{Solve as Filling}
use Rattle.play_midend.specs.Steps.{start_of, refusal_of}
use Rattle.play_midend.specs.Histories.{History, IsValid, past, shown, full_refusal, with_move, SolveGives}
use Rattle.play_midend.specs.Laws.{Call}
use Rattle.play_midend.proofs.TestedSolutions.{solutions_are_filled_in}
use Rattle.play_midend.proofs.Replaying.{replay_from-append}
use Rattle.play_midend.proofs.Playing.{accepted}
use Rattle.line_replies.specs.declared.command.Action.TheVariants.{Solve}
use Rattle.line_replies.specs.SolutionTexts.{move_line, EndsInSolution, IsLastMove}
use Rattle.line_replies.specs.Inner.Answers.{ReadAnswered, ActionAnswered, IsFilledIn}

-- the line of the board's numbers is that of the move
pub last_line : {P : Type 0} (p : Puzzle) (h : History P) (text : List ℕ) → (g : GridValue) × IsFilledIn p h g
    → text ≡ move_line (Filling (grid_of (shown p h))) → IsLastMove h text
last_line p h text (g, filled) is =
    let same = ap (λ (numbers : List ℕ). move_line (Filling (record { size = g.size; numbers = numbers }))) filled.on_board in
    (g, filled.last, is ∙ same)

-- the last move is the one that was made
pub ends_in : {P : Type 0} (h : History P) (g : GridValue) → EndsInSolution (with_move h (Filling g)) g
ends_in h g =
    let moves : List Move = past h ++ Filling g ∷ [] in
    let long : length moves ≡ length (past h) + 1 = length-append (past h) (Filling g ∷ []) in
    slice_get_read moves (length moves) (length moves - 1) (Filling g) refl (omega arith)
    (sym (get_or_push (past h) (Filling g) (Filling g) (length moves - 1) (omega arith)))

module _ {P : Type 0} (puzzle : P → Puzzle) (h : History P) (valid : IsValid (puzzle h.puzzle) h) where
  -- a solution that was filled in is on the board
  fills_in : (g : GridValue) → IsOnlySolution (puzzle h.puzzle) g → IsFilledIn (puzzle h.puzzle) (with_move h (Filling g)) g
  fills_in g only =
      let p = puzzle h.puzzle in
      let first = valid.first in
      let last = valid.last in
      let moves : List Move = past h ++ Filling g ∷ [] in
      let front : length (past h) ≡ h.position - 1 = length-take-le (h.position - 1) h.moves (omega arith) in
      let long : length moves ≡ length (past h) + 1 = length-append (past h) (Filling g ∷ []) in
      let whole : past (with_move h (Filling g)) ≡ moves = take_all (h.position + 1 - 1) moves (omega arith) in
      let allowed : refusal_of p (shown p h) (Filling g) ≡ None = (solutions_are_filled_in p (shown p h) g).1 only.solves in
      record { last = ends_in h g; on_board = rw (whole, replay_from-append p (start_of p) (past h) (Filling g ∷ []), allowed) refl }

  -- the solution that the call for it fills in is the last move and on the board
  solution_filled_in : (new : History P) → SolveGives (puzzle h.puzzle) h (Ok new) → (g : GridValue) × IsFilledIn (puzzle new.puzzle) new g
  solution_filled_in new (inl (none, is)) = cc
  solution_filled_in new (inr (inl (several, is))) = cc
  solution_filled_in new (inr (inr (g, only, is))) =
      let made = accepted (full_refusal h.position) (with_move h (Filling g)) new (sym is) in
      (g, subst (λ (k : History P). IsFilledIn (puzzle k.puzzle) k g) made.1 (fills_in g only))

  -- once `solve` has filled in a solution, it is the last move and on the board
  pub solve_fills_in : (new : History P) (answer : Result (Unit {0}) PlayFault) → ActionAnswered (puzzle h.puzzle) h Solve answer new
      → OnOk answer ((g : GridValue) × IsFilledIn (puzzle new.puzzle) new g)
  solve_fills_in new (Ok u) (read, is, answer) =
      solution_filled_in new (subst (λ (r : Result Call PlayFault). ReadAnswered (puzzle h.puzzle) h r (Ok u) new) is answer)
  solve_fills_in new (Err fault) answered = tt
