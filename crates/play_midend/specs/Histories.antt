-- The value of a session, and what each call makes of it.
use Rattle.std.specs.Prelude.{◌≡◌, ◌⊎◌, ℕ, ◌+◌, ◌-◌, ◌≤◌, ◌==◌, true, if◌then◌else◌, List, [], ◌∷◌, ◌++◌, length, take}
use Rattle.std.specs.Prelude.{Option, Some, None, Result, Ok, Err, IsOk}
use Rattle.std.specs.Option.{option_or}
use Rattle.latin_board.specs.Squares.{GridValue}
use Rattle.latin_board.specs.Boards.{BoardValue, IsBoard}
use Rattle.trail_solver.specs.Puzzles.{Puzzle}
use Rattle.trail_solver.specs.Solutions.{HasNoSolution, HasSeveralSolutions, IsOnlySolution}
use Rattle.game_texts.specs.declared.params.Params.{Params}
use Rattle.game_texts.specs.Parameters.{IsParams}
use Rattle.play_midend.specs.declared.extras.Extras.{Extras}
use Rattle.play_midend.specs.declared.moves.Move.{Move}
use Rattle.play_midend.specs.declared.moves.Move.TheVariants.{Solve, Restart}
use Rattle.play_midend.specs.declared.session.TheConstants.{MOST_STATES}
use Rattle.play_midend.specs.declared.fault.PlayFault.{PlayFault}
use Rattle.play_midend.specs.declared.fault.PlayFault.TheVariants.{HistoryFull, OutOfMemory, NothingToUndo}
use Rattle.play_midend.specs.declared.fault.PlayFault.TheVariants.{NothingToRedo, NothingToRestart, NoSolution, SeveralSolutions}
use Rattle.play_midend.specs.Steps.{is_restart, refusal_of, unless_refused, replay, IsLegal}

-- a session as a value: the position is the number of the state that is shown, counted from 1
pub record History (P : Type 0) : Type 0 where
  pub puzzle : P
  pub params : Params
  pub next_params : Params
  pub extras : Extras
  pub moves : List Move
  pub position : ℕ

-- the moves that lead to the state that is shown
abbrev pub past : {P : Type 0} → History P → List Move
past h = take (h.position - 1) h.moves

-- the board of the state that is shown
abbrev pub shown : {P : Type 0} → Puzzle → History P → BoardValue
shown p h = replay p (past h)

-- what the board of a session of a puzzle keeps: it is a board of the puzzle's size, and with help comes completion
pub record IsSessionBoard (w : ℕ) (b : BoardValue) : Type 0 where
  pub board : IsBoard b
  pub size : b.size ≡ w
  pub helped : b.cheated ≡ true → b.completed ≡ true

-- the session is valid: its moves can be made in turn, and its position is one of its states
pub record IsValid {P : Type 0} (p : Puzzle) (h : History P) : Type 0 where
  pub size : h.params.size ≡ p.size
  pub legal : IsLegal p h.moves
  pub few : length h.moves + 1 ≤ MOST_STATES
  pub first : 1 ≤ h.position
  pub last : h.position ≤ length h.moves + 1

-- a session that a save file can hold: it is valid, and its puzzle and both parameters are the game's
pub record IsStorable {P : Type 0} (puzzle : P → Puzzle) (of_game : P → Type 0) (letters : List ℕ)
    (h : History P) : Type 0 where
  pub session : IsValid (puzzle h.puzzle) h
  pub puzzle_is : of_game h.puzzle
  pub params_are : IsParams letters h.params
  pub next_params_are : IsParams letters h.next_params

-- a new session
abbrev pub started : {P : Type 0} → P → Params → Params → Extras → History P
started puzzle params next_params extras = record {
  puzzle = puzzle;
  params = params;
  next_params = next_params;
  extras = extras;
  moves = [];
  position = 1;
}

-- the session after a move: the states after the one that was shown go, and the new one is shown
abbrev pub with_move : {P : Type 0} → History P → Move → History P
with_move h m = record h { moves = past h ++ m ∷ []; position = h.position + 1 }

-- the same list of moves, shown at another position
abbrev pub at_position : {P : Type 0} → History P → ℕ → History P
at_position h position = record h { position = position }

-- the refusal of a restart by the position: only at the first state it is refused
abbrev pub restart_refusal : ℕ → Option PlayFault
restart_refusal position = if position == 1 then Some NothingToRestart else None

-- the refusal of a move by the position, if it is a restart at the first state
abbrev pub first_state_refusal : ℕ → Move → Option PlayFault
first_state_refusal position m = if is_restart m then restart_refusal position else None

-- the refusal of a move at the last position that a history has
abbrev pub full_refusal : ℕ → Option PlayFault
full_refusal position = if position == MOST_STATES then Some HistoryFull else None

-- the first refusal of a move at the state that is shown, OutOfMemory left aside
abbrev pub refusal_in : {P : Type 0} → Puzzle → History P → Move → Option PlayFault
refusal_in p h m =
    option_or (first_state_refusal h.position m) (option_or (refusal_of p (shown p h) m) (full_refusal h.position))

-- a move, or its first refusal
abbrev pub played : {P : Type 0} → Puzzle → History P → Move → Result (History P) PlayFault
played p h m = unless_refused (refusal_in p h m) (with_move h m)

-- a restart, or its first refusal
abbrev pub restarted : {P : Type 0} → History P → Result (History P) PlayFault
restarted h =
    unless_refused (option_or (restart_refusal h.position) (full_refusal h.position)) (with_move h Restart)

-- what solving gives: the only solution, filled in as a move whatever the board shows, or why there is none
abbrev pub SolveGives : {P : Type 0} → Puzzle → History P → Result (History P) PlayFault → Type 0
SolveGives p h exact =
    (HasNoSolution p × (exact ≡ Err NoSolution))
    ⊎ (HasSeveralSolutions p × (exact ≡ Err SeveralSolutions))
    ⊎ ((g : GridValue) × IsOnlySolution p g
    × (exact ≡ unless_refused (full_refusal h.position) (with_move h (Solve g))))

-- an undo: the session at the state before, or its refusal
abbrev pub undone : {P : Type 0} → History P → Result (History P) PlayFault
undone h = if h.position == 1 then Err NothingToUndo else Ok (at_position h (h.position - 1))

-- a redo: the session at the next state, which it has if moves were undone, or its refusal
abbrev pub redone : {P : Type 0} → History P → Result (History P) PlayFault
redone h =
    if h.position == length h.moves + 1 then Err NothingToRedo else Ok (at_position h (h.position + 1))

-- a refusal of a call that takes memory: its own, or OutOfMemory in place of success alone
abbrev pub IsRefusal : {A : Type 0} → Result A PlayFault → PlayFault → Type 0
IsRefusal exact OutOfMemory = IsOk exact
IsRefusal exact fault = exact ≡ Err fault

-- a refusal of solving, OutOfMemory among them
abbrev pub IsSolveRefusal : {P : Type 0} → Puzzle → History P → PlayFault → Type 0
IsSolveRefusal {P} p h fault =
    (exact : Result (History P) PlayFault) × SolveGives p h exact × IsRefusal exact fault
