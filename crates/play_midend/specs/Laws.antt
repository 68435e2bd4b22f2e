-- The laws of a session's calls, over its value alone, and what a list of calls leaves.
use Rattle.std.specs.Prelude.{◌≡◌, ◌↔◌, ℕ, ◌+◌, ◌-◌, ◌≤◌, Bool, true, false, List, [], ◌∷◌, length, None, Result, Ok, Err}
use Rattle.std.specs.Bool.{MatchBool}
use Rattle.std.specs.Result.{IsOkAnd}
use Rattle.latin_board.specs.Boards.{BoardValue, grid_of}
use Rattle.latin_board.specs.Squares.{GridValue}
use Rattle.trail_solver.specs.Puzzles.{Puzzle, HoldsGivens, Solves}
use Rattle.game_texts.specs.declared.params.Params.{Params}
use Rattle.game_texts.specs.Parameters.{IsParams}
use Rattle.play_midend.specs.declared.extras.Extras.{Extras}
use Rattle.play_midend.specs.declared.moves.Move.{Move}
use Rattle.play_midend.specs.declared.moves.Move.TheVariants.{Solve}
use Rattle.play_midend.specs.declared.fault.PlayFault.{PlayFault}
use Rattle.play_midend.specs.Steps.{refusal_of, IsLegal}
use Rattle.play_midend.specs.declared.session.TheConstants.{MOST_STATES}
use Rattle.play_midend.specs.Histories.{History, IsValid, IsStorable, past, shown, started, at_position, played}
use Rattle.play_midend.specs.Histories.{restarted, SolveGives, undone, redone, IsRefusal}
use Rattle.play_midend.specs.MoveLists.{result_and_then, played_all, with_moves, undone_times}

-- a grid can be filled in just if it solves the puzzle, whatever the board shows
abbrev pub SolutionsAreFilledIn : Type 0
SolutionsAreFilledIn = (p : Puzzle) (b : BoardValue) (g : GridValue) → (refusal_of p b (Solve g) ≡ None) ↔ Solves p g

-- the board that a session shows has the givens of its puzzle
abbrev pub GivensStay : {P : Type 0} → (P → Puzzle) → Type 0
GivensStay {P} puzzle = (h : History P) → let p = puzzle h.puzzle in IsValid p h → HoldsGivens p (grid_of (shown p h))

-- the calls that may change a session
pub data Call : Type 0 where
  Play : Move → Call
  FromStart : Call
  ToSolution : Call
  Undo : Call
  Redo : Call

-- what a call answers, OutOfMemory left aside
abbrev pub CallGives : {P : Type 0} → Puzzle → History P → Call → Result (History P) PlayFault → Type 0
CallGives p h (Play m) exact = exact ≡ played p h m
CallGives p h FromStart exact = exact ≡ restarted h
CallGives p h ToSolution exact = SolveGives p h exact
CallGives p h Undo exact = exact ≡ undone h
CallGives p h Redo exact = exact ≡ redone h

-- whether the call may be refused for want of memory: undo and redo never are
abbrev pub may_take_memory : Call → Bool
may_take_memory (Play m) = true
may_take_memory FromStart = true
may_take_memory ToSolution = true
may_take_memory Undo = false
may_take_memory Redo = false

-- a call, its answer and the value that it leaves: a refused call changes nothing
abbrev pub Answered : {P : Type 0} → Puzzle → History P → Call → Result (Unit {0}) PlayFault → History P → Type 0
Answered p old call (Ok u) new = CallGives p old call (Ok new)
Answered {P} p old call (Err fault) new =
    (new ≡ old) × ((exact : Result (History P) PlayFault) × CallGives p old call exact
    × MatchBool (may_take_memory call) (IsRefusal exact fault) (exact ≡ Err fault))

-- calls in turn, each with its answer
abbrev pub AnsweredInTurn : {P : Type 0} → Puzzle → History P → List (Call × Result (Unit {0}) PlayFault) → History P
    → Type 0
AnsweredInTurn p old [] new = new ≡ old
AnsweredInTurn {P} p old (c ∷ calls) new =
    (mid : History P) × Answered p old c.0 c.1 mid × AnsweredInTurn p mid calls new

-- from a valid session each list of calls leaves a valid one
abbrev pub RunsStayValid : {P : Type 0} → (P → Puzzle) → Type 0
RunsStayValid {P} puzzle =
    (old new : History P) (calls : List (Call × Result (Unit {0}) PlayFault)) → let p = puzzle old.puzzle in
    IsValid p old → AnsweredInTurn p old calls new → IsValid p new

-- a new session of a puzzle of the game, with parameters of the game, is storable
abbrev pub StartsStorable : {P : Type 0} → (P → Puzzle) → (P → Type 0) → List ℕ → Type 0
StartsStorable {P} puzzle of_game letters =
    (first : P) (params next_params : Params) (extras : Extras) →
    of_game first → IsParams letters params → IsParams letters next_params → params.size ≡ (puzzle first).size
    → IsStorable puzzle of_game letters (started first params next_params extras)

-- from a storable session each list of calls leaves a storable one
abbrev pub RunsStayStorable : {P : Type 0} → (P → Puzzle) → (P → Type 0) → List ℕ → Type 0
RunsStayStorable {P} puzzle of_game letters =
    (old new : History P) (calls : List (Call × Result (Unit {0}) PlayFault)) →
    IsStorable puzzle of_game letters old → AnsweredInTurn (puzzle old.puzzle) old calls new
    → IsStorable puzzle of_game letters new

-- the session is as before: puzzle, parameters, kept bytes, past, position, board; later moves may be gone
pub record IsSameBack {P : Type 0} (p : Puzzle) (old new : History P) : Type 0 where
  pub puzzle : new.puzzle ≡ old.puzzle
  pub params : new.params ≡ old.params
  pub next_params : new.next_params ≡ old.next_params
  pub extras : new.extras ≡ old.extras
  pub past_is : past new ≡ past old
  pub position : new.position ≡ old.position
  pub board : shown p new ≡ shown p old

-- a move that is accepted, a restart among them, is taken back by an undo
abbrev pub UndoTakesBack : {P : Type 0} → (P → Puzzle) → Type 0
UndoTakesBack {P} puzzle =
    (old new : History P) (m : Move) → let p = puzzle old.puzzle in
    IsValid p old → played p old m ≡ Ok new → IsOkAnd (undone new) (IsSameBack p old)

-- a restart by its own call is taken back by an undo
abbrev pub UndoTakesRestartBack : {P : Type 0} → (P → Puzzle) → Type 0
UndoTakesRestartBack {P} puzzle =
    (old new : History P) → let p = puzzle old.puzzle in
    IsValid p old → restarted old ≡ Ok new → IsOkAnd (undone new) (IsSameBack p old)

-- a solution that `solve` filled in is taken back by an undo
abbrev pub UndoTakesSolveBack : {P : Type 0} → (P → Puzzle) → Type 0
UndoTakesSolveBack {P} puzzle =
    (old new : History P) → let p = puzzle old.puzzle in
    IsValid p old → SolveGives p old (Ok new) → IsOkAnd (undone new) (IsSameBack p old)

-- a redo after an undo gives back the whole session, its later moves included
abbrev pub RedoTakesUndoBack : {P : Type 0} → (P → Puzzle) → Type 0
RedoTakesUndoBack {P} puzzle =
    (old new : History P) → let p = puzzle old.puzzle in
    IsValid p old → undone old ≡ Ok new → redone new ≡ Ok old

-- a legal list of moves that a history has room for is accepted, played from a new session
abbrev pub LegalListsPlay : {P : Type 0} → (P → Puzzle) → Type 0
LegalListsPlay {P} puzzle =
    (first : P) (params next_params : Params) (extras : Extras) (ms : List Move) →
    IsLegal (puzzle first) ms → length ms + 1 ≤ MOST_STATES
    → let new = started first params next_params extras in
    played_all (puzzle first) new ms ≡ Ok (with_moves new ms)

-- a list that is accepted from a new session is legal, has room, and leaves these moves, at the last position
abbrev pub AcceptedListsAreLegal : {P : Type 0} → (P → Puzzle) → Type 0
AcceptedListsAreLegal {P} puzzle =
    (first : P) (params next_params : Params) (extras : Extras) (ms : List Move) (last : History P) →
    let new = started first params next_params extras in
    played_all (puzzle first) new ms ≡ Ok last
    → IsLegal (puzzle first) ms × (length ms + 1 ≤ MOST_STATES) × (last ≡ with_moves new ms)

-- n undos lead from a position to the one that is n lower
abbrev pub UndoLeadsBack : Type 0 → Type 0
UndoLeadsBack P =
    (h : History P) (n position : ℕ) → 1 ≤ position → h.position ≡ position + n
    → undone_times n h ≡ Ok (at_position h position)

-- each valid session is reached from a new one by its moves, and then by undos
abbrev pub HistoriesAreReached : {P : Type 0} → (P → Puzzle) → Type 0
HistoriesAreReached {P} puzzle =
    (h : History P) → let p = puzzle h.puzzle in
    IsValid p h → let new = started h.puzzle h.params h.next_params h.extras in
    result_and_then (undone_times (length h.moves + 1 - h.position)) (played_all p new h.moves) ≡ Ok h
