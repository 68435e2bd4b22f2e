-- The laws of a session's calls.
use Rattle.std.proofs.lemmas.Bool.Decides.{nat_tests}
use Rattle.std.proofs.Common.{◌≡◌, ◌≢◌, ℕ, ◌+◌, ◌-◌, ◌≤◌, true, List, [], ◌∷◌, ◌++◌, length, Result, Ok, Err, refl, sym, ◌∙◌, subst, arith, inl, inr}
use Rattle.std.specs.Result.{IsOkAnd}
use Rattle.std.proofs.lemmas.List.{length-take-le, length-append, take_at}
use Rattle.trail_solver.specs.Puzzles.{Puzzle}
use Rattle.play_midend.specs.declared.moves.Move.{Move}
use Rattle.play_midend.specs.declared.moves.Move.TheVariants.{Solve, Restart}
use Rattle.play_midend.specs.declared.fault.PlayFault.{PlayFault}
use Rattle.play_midend.specs.Steps.{start_of}
use Rattle.play_midend.specs.Histories.{History, IsValid, past, shown, refusal_in, with_move, at_position, played, SolveGives, undone, redone}
use Rattle.play_midend.specs.Laws.{Call, Play, FromStart, ToSolution, Undo, Redo, CallGives, may_take_memory, Answered, AnsweredInTurn, RunsStayValid, IsSameBack, UndoTakesBack, UndoTakesRestartBack, UndoTakesSolveBack, RedoTakesUndoBack}
use Rattle.play_midend.proofs.OptionSteps.{ok_else}
use Rattle.play_midend.proofs.Making.{step_allowed}
use Rattle.play_midend.proofs.Replaying.{ArePlayable-append, ArePlayable-take, restart_first-take, restart_first-push}
use Rattle.play_midend.proofs.Playing.{Allowed, allowed_in, accepted, solved_as_played}

length-past : {P : Type 0} (p : Puzzle) (h : History P) → IsValid p h → length (past h) ≡ h.position - 1
length-past p h v = let first = v.first in let last = v.last in length-take-le (h.position - 1) h.moves (omega arith)

valid_with_move : {P : Type 0} (p : Puzzle) (h : History P) (m : Move) → IsValid p h → Allowed p h.position (shown p h) m
    → IsValid p (with_move h m)
valid_with_move p h m v allowed =
    let first = v.first in
    let last = v.last in
    let few = v.few in
    let room = allowed.room in
    let front = length-past p h v in
    let long : length (past h ++ m ∷ []) ≡ h.position = length-append (past h) (m ∷ []) ∙ omega (arith, front) in
    record {
      size = v.size;
      legal = record {
        playable = ArePlayable-append p (start_of p) (past h) (m ∷ [])
            (ArePlayable-take p (start_of p) (h.position - 1) h.moves v.legal.playable)
            (rw (step_allowed p (shown p h) m allowed.on_board) refl, tt);
        no_restart_first = restart_first-push (past h) m (restart_first-take (h.position - 1) h.moves v.legal.no_restart_first)
            (λ none. allowed.restart (omega (arith, front)));
      };
      few = omega (arith, long);
      first = omega arith;
      last = omega (arith, long);
    }

valid_played : {P : Type 0} (p : Puzzle) (h new : History P) (m : Move) → IsValid p h → played p h m ≡ Ok new → IsValid p new
valid_played {P} p h new m v is =
    let a = accepted (refusal_in p h m) (with_move h m) new is in
    subst (λ (k : History P). IsValid p k) a.1 (valid_with_move p h m v (allowed_in p h m a.0))

valid_at : {P : Type 0} (p : Puzzle) (h : History P) (position : ℕ) → IsValid p h → 1 ≤ position → position ≤ length h.moves + 1
    → IsValid p (at_position h position)
valid_at p h position v first last = record { size = v.size; legal = v.legal; few = v.few; first = first; last = last }

-- an accepted undo or redo shows the state beside the one that was shown
pub undone_is : {P : Type 0} (h new : History P) → undone h ≡ Ok new → (h.position ≢ 1) × (at_position h (h.position - 1) ≡ new)
undone_is h new is = grind (arith, nat_tests, ok_else)

-- where redo gives a session, it wasn't at the last state, and is one further
pub redone_is : {P : Type 0} (h new : History P) → redone h ≡ Ok new
    → (h.position ≢ length h.moves + 1) × (at_position h (h.position + 1) ≡ new)
redone_is h new is = grind (arith, nat_tests, ok_else)

valid_undone : {P : Type 0} (p : Puzzle) (h new : History P) → IsValid p h → undone h ≡ Ok new → IsValid p new
valid_undone p h new v is = grind (arith, nat_tests, undone_is, valid_at)

valid_redone : {P : Type 0} (p : Puzzle) (h new : History P) → IsValid p h → redone h ≡ Ok new → IsValid p new
valid_redone p h new v is = grind (arith, nat_tests, redone_is, valid_at)

valid_solved : {P : Type 0} (p : Puzzle) (h new : History P) → IsValid p h → SolveGives p h (Ok new) → IsValid p new
valid_solved p h new v (inl none) = cc (none.1)
valid_solved p h new v (inr (inl several)) = cc (several.1)
valid_solved p h new v (inr (inr (grid, only, made))) =
    valid_played p h new (Solve grid) v (solved_as_played p h grid only ∙ sym made)

-- what a call makes of a valid session is valid
pub valid_called : {P : Type 0} (p : Puzzle) (h new : History P) (call : Call) → IsValid p h → CallGives p h call (Ok new) → IsValid p new
valid_called p h new (Play m) v is = valid_played p h new m v (sym is)
valid_called p h new FromStart v is = valid_played p h new Restart v (sym is)
valid_called p h new ToSolution v is = valid_solved p h new v is
valid_called p h new Undo v is = valid_undone p h new v (sym is)
valid_called p h new Redo v is = valid_redone p h new v (sym is)

valid_answered : {P : Type 0} (p : Puzzle) (h new : History P) (call : Call) (answer : Result (Unit {0}) PlayFault) → IsValid p h
    → Answered p h call answer new → IsValid p new
valid_answered p h new call (Ok u) v is = valid_called p h new call v is
valid_answered {P} p h new call (Err fault) v is = subst (λ (k : History P). IsValid p k) (sym is.0) v

valid_run : {P : Type 0} (p : Puzzle) (h new : History P) (calls : List (Call × Result (Unit {0}) PlayFault)) → IsValid p h
    → AnsweredInTurn p h calls new → IsValid p new
valid_run {P} p h new [] v run = subst (λ (k : History P). IsValid p k) (sym run) v
valid_run p h new ((call, answer) ∷ calls) v (next, first, run) = valid_run p next new calls (valid_answered p h next call answer v first) run

pub runs_stay_valid : {P : Type 0} (puzzle : P → Puzzle) → RunsStayValid puzzle
runs_stay_valid puzzle old new calls v run = valid_run (puzzle old.puzzle) old new calls v run

-- an undo after a move gives back the session before it, but that later moves may be gone
move_taken_back : {P : Type 0} (p : Puzzle) (h : History P) (m : Move) → IsValid p h → IsOkAnd (undone (with_move h m)) (IsSameBack p h)
move_taken_back p h m v = grind (arith, nat_tests, length-past, take_at)

-- undo takes a move back
pub undo_takes_back : {P : Type 0} (puzzle : P → Puzzle) → UndoTakesBack puzzle
undo_takes_back {P} puzzle old new m v is =
    let p = puzzle old.puzzle in
    let a = accepted (refusal_in p old m) (with_move old m) new is in
    subst (λ (k : History P). IsOkAnd (undone k) (IsSameBack p old)) a.1 (move_taken_back p old m v)

-- undo takes a restart back
pub undo_takes_restart_back : {P : Type 0} (puzzle : P → Puzzle) → UndoTakesRestartBack puzzle
undo_takes_restart_back puzzle old new v is = undo_takes_back puzzle old new Restart v is

-- undo takes a solution back that was filled in
pub undo_takes_solve_back : {P : Type 0} (puzzle : P → Puzzle) → UndoTakesSolveBack puzzle
undo_takes_solve_back puzzle old new v (inl none) = cc (none.1)
undo_takes_solve_back puzzle old new v (inr (inl several)) = cc (several.1)
undo_takes_solve_back puzzle old new v (inr (inr (grid, only, made))) =
    undo_takes_back puzzle old new (Solve grid) v (solved_as_played (puzzle old.puzzle) old grid only ∙ sym made)

-- a call that may take memory adds a state, and an undo shows the one before
pub call_taken_back : {P : Type 0} (puzzle : P → Puzzle) (h new : History P) (call : Call) → IsValid (puzzle h.puzzle) h
    → may_take_memory call ≡ true → CallGives (puzzle h.puzzle) h call (Ok new)
    → IsOkAnd (undone new) (IsSameBack (puzzle h.puzzle) h)
call_taken_back puzzle h new call v takes is =
    grind (arith, nat_tests, undo_takes_back, undo_takes_restart_back, undo_takes_solve_back)

-- a redo from the state before gives back the session
redone_back : {P : Type 0} (p : Puzzle) (h : History P) → IsValid p h → h.position ≢ 1 → redone (at_position h (h.position - 1)) ≡ Ok h
redone_back p h v other = grind (arith, nat_tests)

-- redo makes again what was undone
pub redo_takes_undo_back : {P : Type 0} (puzzle : P → Puzzle) → RedoTakesUndoBack puzzle
redo_takes_undo_back puzzle old new v is = grind (arith, nat_tests, undone_is, redone_back)
