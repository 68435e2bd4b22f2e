-- Laws of what is told as JSON: an object determines the plain reply.
use Rattle.std.specs.Prelude.{◌≡◌, ◌≢◌, ℕ, List, Option, Some}
use Rattle.play_midend.specs.Histories.{History}
use Rattle.line_replies.specs.Lines.{Line}
use Rattle.line_replies.specs.GameFacts.{GameFacts}
use Rattle.line_replies.specs.WholeLines.{AreWholeLines}
use Rattle.line_replies.specs.RunLaws.{PicturesAreWholeLines}
use Rattle.json_replies.specs.Texts.{lines_of, lines_text}
use Rattle.json_replies.specs.ObjectLines.{lost_line, OrLost}
use Rattle.json_replies.specs.Replies.{Answer, answer_name, answer_text, IsAnswerLine}
use Rattle.json_replies.specs.Sessions.{session_data}
use Rattle.json_replies.specs.FurtherLines.{BoardFacts, Further, further_at, IsFurtherLine}
use Rattle.json_replies.specs.JsonReplies.{AnswerGives, JsonReply}

-- the lines that are told of a reply of whole lines, each with LF, are the reply
abbrev pub LinesAreTheReply : Type 0
LinesAreTheReply = (said : List ℕ) → AreWholeLines said → lines_text (lines_of said) ≡ said

-- where pictures are whole lines, two lines told by one object, neither of them beside the commands, have
-- the same plain answer, are refused alike or not at all, and leave sessions of which the same is told
abbrev pub ObjectsTellOneReply : {P : Type 0} → GameFacts P → BoardFacts P → Type 0
ObjectsTellOneReply {P} f b =
    PicturesAreWholeLines f.drawing
    → (old before : Option (History P)) (line earlier : Line) (one other : Answer P) (new last : Option (History P))
    (bytes : List ℕ)
    → AnswerGives f b old line one → AnswerGives f b before earlier other → IsAnswerLine f one new bytes
    → IsAnswerLine f other last bytes
    → (answer_text one ≡ answer_text other) × (answer_name one ≡ answer_name other)
    × (session_data f new ≡ session_data f last)

-- no object's line is the one that tells that an object was lost
pub record ObjectsAreNotLost {P : Type 0} (f : GameFacts P) (b : BoardFacts P) : Type 0 where
  pub replies : (answer : Answer P) (new : Option (History P)) (bytes : List ℕ) → IsAnswerLine f answer new bytes
      → bytes ≢ lost_line
  pub answers : (asked : Further) (new : Option (History P)) (bytes : List ℕ) → IsFurtherLine f b asked new bytes
      → bytes ≢ lost_line

-- the lines beside the commands leave the session, and are answered from it
abbrev pub AnswersLeave : {P : Type 0} → GameFacts P → BoardFacts P → Type 0
AnswersLeave {P} f b =
    (line : Line) (asked : Further) (old new : Option (History P)) (bytes : List ℕ)
    → further_at b.fair_letter line ≡ Some asked → JsonReply f b old line bytes new
    → (new ≡ old) × OrLost (IsFurtherLine f b asked old) bytes
