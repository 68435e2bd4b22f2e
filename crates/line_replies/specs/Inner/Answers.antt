-- A call that is made, and a solution that it filled in.
use Rattle.std.specs.Prelude.{◌≡◌, ℕ, List, Result, Ok, Err}
use Rattle.latin_board.specs.Squares.{GridValue}
use Rattle.trail_solver.specs.Puzzles.{Puzzle}
use Rattle.play_midend.specs.declared.fault.PlayFault.{PlayFault}
use Rattle.play_midend.specs.Laws.{Call, Answered}
use Rattle.play_midend.specs.Histories.{History, shown}
use Rattle.line_replies.specs.declared.command.Action.{Action}
use Rattle.line_replies.specs.SessionReplies.{IsCallRead}
use Rattle.line_replies.specs.SolutionTexts.{EndsInSolution}

-- what a call that is asked for answers, and the session that it leaves
abbrev pub ReadAnswered : {P : Type 0} → Puzzle → History P → Result Call PlayFault → Result (Unit {0}) PlayFault
    → History P → Type 0
ReadAnswered p h (Ok call) answer new = Answered p h call answer new
ReadAnswered p h (Err fault) answer new = (new ≡ h) × (answer ≡ Err fault)

-- what an action answers: its call is read, and then made
abbrev pub ActionAnswered : {P : Type 0} → Puzzle → History P → Action (List ℕ) → Result (Unit {0}) PlayFault
    → History P → Type 0
ActionAnswered p h action answer new =
    (read : Result Call PlayFault) × IsCallRead action read × ReadAnswered p h read answer new

-- the last move of a session filled in these numbers, and the board shows them
pub record IsFilledIn {P : Type 0} (p : Puzzle) (h : History P) (g : GridValue) : Type 0 where
  pub last : EndsInSolution h g
  pub on_board : (shown p h).numbers ≡ g.numbers
