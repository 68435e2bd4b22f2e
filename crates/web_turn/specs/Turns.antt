-- A turn: one line of a session that is kept as the text of a save.
use Rattle.std.specs.Prelude.{◌≡◌, ◌≢◌, ◌⊎◌, ◌<◌, ℕ, List, [], Bool, true, false, Option, Some, None, Ok, Err, length}
use Rattle.play_midend.specs.Histories.{History}
use Rattle.play_save.specs.Written.{save_of}
use Rattle.line_replies.specs.declared.machine.Response.{Response}
use Rattle.line_replies.specs.declared.machine.Response.TheVariants.{Reply, Silence, Quit}
use Rattle.line_replies.specs.declared.start.game_name.GameName.{GameName}
use Rattle.line_replies.specs.declared.start.game_name.GameName.TheVariants.{Towers, Unequal}
use Rattle.line_replies.specs.declared.start.start_fault.StartFault.{StartFault}
use Rattle.line_replies.specs.declared.start.start_fault.StartFault.TheVariants.{OutOfMemory as NoMemoryToLoad}
use Rattle.line_replies.specs.Commands.{is_quit}
use Rattle.line_replies.specs.GameFacts.{GameFacts}
use Rattle.line_replies.specs.Lines.{Line, as_line, unless_long}
use Rattle.line_replies.specs.Machines.{IsResponse}
use Rattle.line_replies.specs.StartFault.{start_fault_line}
use Rattle.line_replies.specs.Starts.{GameReply, Begins}
use Rattle.line_replies.specs.Texts.{text_bytes}
use Rattle.web_turn.specs.declared.outcome.Outcome.{Outcome}
use Rattle.web_turn.specs.declared.outcome.Outcome.TheVariants.{Answered, Ended, Unread, OutOfMemory, OutOfRoom}

-- ---- what comes in

-- the game that a call means by a flag
abbrev pub game_of : Bool → GameName
game_of false = Towers
game_of true = Unequal

-- the file to begin with: no bytes stand for no file
abbrev pub file_of : List ℕ → Option (List ℕ)
file_of [] = None
file_of bytes = Some bytes

-- the line of the bytes that have come without their LF: too long, or without one CR at its end
abbrev pub come_line : List ℕ → Line
come_line come = as_line (unless_long come)

-- ---- what goes out

-- what a response says
abbrev pub said_text : Response → List ℕ
said_text (Reply text) = text_bytes text
said_text Silence = []
said_text Quit = []

-- whether a response ends the session
abbrev pub is_end : Response → Bool
is_end (Reply text) = false
is_end Silence = false
is_end Quit = true

-- the text of a save of the session: no bytes where there is none
abbrev pub saved_text : {P : Type 0} → GameFacts P → Option (History P) → List ℕ
saved_text f None = []
saved_text f (Some h) = save_of f.title f.desc_of h

-- the number of an outcome
abbrev pub outcome_number : Outcome → ℕ
outcome_number Answered = 0
outcome_number Ended = 1
outcome_number Unread = 2
outcome_number OutOfMemory = 3
outcome_number OutOfRoom = 4

-- ---- the turn

-- The text before is a save of a session, or there is none; the line is answered to it, by a response that says `said`
-- and ends the session as `ends` says; and the session that this leaves has the text `saved`.
pub record IsTurn {P : Type 0} (f : GameFacts P) (reply : GameReply P) (before : List ℕ) (line : Line)
    (said saved : List ℕ)
    (ends : Bool) : Type 0 where
  pub old : Option (History P)
  pub new : Option (History P)
  pub response : Response
  pub begins : Begins f None (file_of before) (Ok old)
  pub answered : IsResponse reply is_quit old line response new
  pub is_said : said ≡ said_text response
  pub is_saved : saved ≡ saved_text f new
  pub is_end_of_it : ends ≡ is_end response

-- The text before is no save of this game, and that is not for want of memory; `said` is the program's line on it.
abbrev pub IsUnread : {P : Type 0} → GameFacts P → List ℕ → List ℕ → Type 0
IsUnread f before said = (fault : StartFault) × Begins f None (file_of before) (Err fault) × (fault ≢ NoMemoryToLoad)
    × (said ≡ start_fault_line fault)

-- what comes of the line, if there was memory: a turn that ends the session or doesn't, or no turn and nothing saved
abbrev pub IsTurnOutcome : {P : Type 0} → GameFacts P → GameReply P → List ℕ → Line → List ℕ → List ℕ → Outcome → Type 0
IsTurnOutcome f reply before line said saved Answered = IsTurn f reply before line said saved false
IsTurnOutcome f reply before line said saved Ended = IsTurn f reply before line said saved true
IsTurnOutcome f reply before line said saved Unread = IsUnread f before said × (saved ≡ [])
IsTurnOutcome f reply before line said saved OutOfMemory = ⊥
IsTurnOutcome f reply before line said saved OutOfRoom = ⊥

-- The outcome has one text of so many bytes and one of so many, and one of them has no place in its room.
pub record IsTooLong {P : Type 0} (f : GameFacts P) (reply : GameReply P) (before : List ℕ) (line : Line)
    (said_bytes saved_bytes : ℕ)
    (said_room saved_room : ℕ) : Type 0 where
  pub said : List ℕ
  pub saved : List ℕ
  pub outcome : Outcome
  pub answer : IsTurnOutcome f reply before line said saved outcome
  pub said_is : said_bytes ≡ length said
  pub saved_is : saved_bytes ≡ length saved
  pub over : (said_room < said_bytes) ⊎ (saved_room < saved_bytes)
