-- A session that can be stored can still be stored after any calls.
use Rattle.std.proofs.lemmas.Bool.Decides.{nat_tests}
use Rattle.std.proofs.Common.{◌≡◌, ℕ, ◌+◌, ◌-◌, List, [], ◌∷◌, Result, Ok, Err, refl, sym, subst, arith}
use Rattle.trail_solver.specs.Puzzles.{Puzzle}
use Rattle.play_midend.specs.declared.moves.Move.{Move}
use Rattle.play_midend.specs.declared.moves.Move.TheVariants.{Restart}
use Rattle.play_midend.specs.declared.fault.PlayFault.{PlayFault}
use Rattle.play_midend.specs.Histories.{History, IsStorable, with_move, at_position, refusal_in, played, SolveGives}
use Rattle.play_midend.specs.Laws.{Call, Play, FromStart, ToSolution, Undo, Redo, CallGives, Answered, AnsweredInTurn, StartsStorable, RunsStayStorable}
use Rattle.play_midend.proofs.GivenSquares.{givens_stay}
use Rattle.play_midend.proofs.Playing.{accepted, solved_as_played}
use Rattle.play_midend.proofs.SessionLaws.{valid_called, undone_is, redone_is, runs_stay_valid, undo_takes_back, undo_takes_restart_back, undo_takes_solve_back, redo_takes_undo_back}

-- the puzzle, the parameters and the kept bytes stay
pub record IsSameGame {P : Type 0} (old new : History P) : Type 0 where
  pub puzzle : new.puzzle ≡ old.puzzle
  pub params : new.params ≡ old.params
  pub next_params : new.next_params ≡ old.next_params
  pub extras : new.extras ≡ old.extras

pub same_game_played : {P : Type 0} (p : Puzzle) (h new : History P) (m : Move) → played p h m ≡ Ok new → IsSameGame h new
same_game_played {P} p h new m is =
    let a = accepted (refusal_in p h m) (with_move h m) new is in
    subst (λ (k : History P). IsSameGame h k) a.1 (record { puzzle = refl; params = refl; next_params = refl; extras = refl })

same_game_at : {P : Type 0} (h new : History P) (position : ℕ) → at_position h position ≡ new → IsSameGame h new
same_game_at {P} h new position e =
    subst (λ (k : History P). IsSameGame h k) e (record { puzzle = refl; params = refl; next_params = refl; extras = refl })

pub same_game_solved : {P : Type 0} (p : Puzzle) (h new : History P) → SolveGives p h (Ok new) → IsSameGame h new
same_game_solved p h new here = grind (arith, nat_tests, same_game_played, solved_as_played)

-- a call changes neither the puzzle of a session nor its parameters
pub same_game_called : {P : Type 0} (p : Puzzle) (h new : History P) (call : Call) → CallGives p h call (Ok new) → IsSameGame h new
same_game_called p h new (Play m) is = same_game_played p h new m (sym is)
same_game_called p h new FromStart is = same_game_played p h new Restart (sym is)
same_game_called p h new ToSolution is = same_game_solved p h new is
same_game_called p h new Undo is = same_game_at h new (h.position - 1) (undone_is h new (sym is)).1
same_game_called p h new Redo is = same_game_at h new (h.position + 1) (redone_is h new (sym is)).1

-- a call that is accepted leaves a storable session storable
pub storable_called : {P : Type 0} (puzzle : P → Puzzle) (of_game : P → Type 0) (letters : List ℕ) (h new : History P) (call : Call)
    → IsStorable puzzle of_game letters h → CallGives (puzzle h.puzzle) h call (Ok new) → IsStorable puzzle of_game letters new
storable_called puzzle of_game letters h new call s is = grind (arith, nat_tests, same_game_called, valid_called)

-- a call leaves a storable session storable, accepted or refused
pub storable_answered : {P : Type 0} (puzzle : P → Puzzle) (of_game : P → Type 0) (letters : List ℕ) (h new : History P) (call : Call)
    (answer : Result (Unit {0}) PlayFault)
    → IsStorable puzzle of_game letters h → Answered (puzzle h.puzzle) h call answer new → IsStorable puzzle of_game letters new
storable_answered puzzle of_game letters h new call (Ok u) s is = storable_called puzzle of_game letters h new call s is
storable_answered {P} puzzle of_game letters h new call (Err fault) s is = subst (λ (k : History P). IsStorable puzzle of_game letters k) (sym is.0) s

same_puzzle_answered : {P : Type 0} (p : Puzzle) (h new : History P) (call : Call) (answer : Result (Unit {0}) PlayFault)
    → Answered p h call answer new → new.puzzle ≡ h.puzzle
same_puzzle_answered p h new call (Ok u) is = let same = same_game_called p h new call is in same.puzzle
same_puzzle_answered {P} p h new call (Err fault) is = subst (λ (k : History P). k.puzzle ≡ h.puzzle) (sym is.0) refl

storable_run : {P : Type 0} (puzzle : P → Puzzle) (of_game : P → Type 0) (letters : List ℕ) (h new : History P)
    (calls : List (Call × Result (Unit {0}) PlayFault))
    → IsStorable puzzle of_game letters h → AnsweredInTurn (puzzle h.puzzle) h calls new → IsStorable puzzle of_game letters new
storable_run {P} puzzle of_game letters h new [] s run = subst (λ (k : History P). IsStorable puzzle of_game letters k) (sym run) s
storable_run {P} puzzle of_game letters h new ((call, answer) ∷ calls) s (next, answered, run) =
    let first = storable_answered puzzle of_game letters h next call answer s answered in
    let same = same_puzzle_answered (puzzle h.puzzle) h next call answer answered in
    storable_run puzzle of_game letters next new calls first (subst (λ (q : P). AnsweredInTurn (puzzle q) next calls new) (sym same) run)

pub runs_stay_storable : {P : Type 0} (puzzle : P → Puzzle) (of_game : P → Type 0) (letters : List ℕ)
    → RunsStayStorable puzzle of_game letters
runs_stay_storable puzzle of_game letters old new calls s run = storable_run puzzle of_game letters old new calls s run

-- a new session, of a puzzle and parameters of the game, is storable
pub starts_storable : {P : Type 0} (puzzle : P → Puzzle) (of_game : P → Type 0) (letters : List ℕ) → StartsStorable puzzle of_game letters
starts_storable puzzle of_game letters first params next_params extras valid params_are next_are size =
    grind (arith, nat_tests)

-- the laws of calls, for the prover's search
pub ruleset laws = (givens_stay, runs_stay_valid, starts_storable, undo_takes_back, undo_takes_restart_back, undo_takes_solve_back, redo_takes_undo_back)
