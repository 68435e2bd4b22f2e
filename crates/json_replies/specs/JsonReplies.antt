-- The replies to a line as JSON, and the session that is left, or none.
use Rattle.std.specs.Prelude.{◌≡◌, ◌⊎◌, ℕ, List, [], Option, Some, None, Ok, Err}
use Rattle.play_midend.specs.Histories.{History}
use Rattle.line_replies.specs.Lines.{Line}
use Rattle.line_replies.specs.GameFacts.{GameFacts}
use Rattle.line_replies.specs.SessionReplies.{Outcome}
use Rattle.line_replies.specs.Replies.{LineGives}
use Rattle.line_replies.specs.Formats.{Leaves}
use Rattle.json_replies.specs.ObjectLines.{OrLost}
use Rattle.json_replies.specs.declared.begin_line.BeginLine.{BeginLine}
use Rattle.json_replies.specs.Replies.{Answer, session_left, IsReplyLine, IsAnswerLine}
use Rattle.json_replies.specs.BeginLines.{IsBeginLine}
use Rattle.json_replies.specs.BeginReplies.{BeginGives}
use Rattle.json_replies.specs.FurtherLines.{BoardFacts, Further, further_at, IsFurtherLine}

-- the line of the object of an outcome, or the one that tells that it was lost; nothing where nothing is said
abbrev pub TellsOutcome : {P : Type 0} → GameFacts P → Outcome P → Option (History P) → List ℕ → Type 0
TellsOutcome f (Ok ([], last)) new bytes = bytes ≡ []
TellsOutcome f outcome new bytes = OrLost (IsReplyLine f outcome new) bytes

-- the line of the object of an answer, or the one that tells that it was lost; nothing where nothing is said
abbrev pub TellsAnswer : {P : Type 0} → GameFacts P → Answer P → Option (History P) → List ℕ → Type 0
TellsAnswer f (Ok outcome) new bytes = TellsOutcome f outcome new bytes
TellsAnswer f (Err refusal) new bytes = OrLost (IsAnswerLine f (Err refusal) new) bytes

-- what the line is to the plain program
abbrev pub PlainGives : {P : Type 0} → GameFacts P → Option (History P) → Line → Answer P → Type 0
PlainGives f old line (Ok outcome) = LineGives f old line outcome
PlainGives f old line (Err refusal) = ⊥

-- what comes of a line that isn't answered from the session: of one that begins a game that game, of any other what it
-- is to the plain program
abbrev pub AnswerGives : {P : Type 0} → GameFacts P → BoardFacts P → Option (History P) → Line → Answer P → Type 0
AnswerGives f b old line answer =
    ((asked : BeginLine (List ℕ)) × IsBeginLine asked line × BeginGives f b old asked answer)
    ⊎ (((asked : BeginLine (List ℕ)) → IsBeginLine asked line → ⊥) × PlainGives f old line answer)

-- what is said to one of the lines beside the commands, which leaves the session, or otherwise to a line by what comes
-- of it
abbrev pub TellsLine : {P : Type 0} → GameFacts P → BoardFacts P → Option (History P) → Line → Option Further
    → List ℕ → Option (History P) → Type 0
TellsLine f b old line (Some asked) bytes new = (new ≡ old) × OrLost (IsFurtherLine f b asked old) bytes
TellsLine {P} f b old line None bytes new =
    (answer : Answer P) × AnswerGives f b old line answer × (new ≡ session_left old answer)
    × TellsAnswer f answer new bytes

-- the bytes are told to the line, and an answer to some line leaves the session: to the line itself, to `new`
-- with the game that it asks for, or, where the session stays, to a line that the plain program refuses
pub record JsonReply {P : Type 0} (f : GameFacts P) (b : BoardFacts P) (old : Option (History P)) (line : Line)
    (bytes : List ℕ)
    (new : Option (History P)) : Type 0 where
  pub leaves : (asked : Line) × Leaves f old asked new
  pub told : TellsLine f b old line (further_at b.fair_letter line) bytes new
