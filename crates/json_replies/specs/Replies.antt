-- The object of a reply.
use Rattle.std.specs.Prelude.{ℕ, List, codes, Option, Some, None, Result, Ok, Err}
use Rattle.serde_json.specs.Data.{Data, null, object, Members, no_members, member}
use Rattle.play_midend.specs.Histories.{History}
use Rattle.line_replies.specs.GameFacts.{GameFacts}
use Rattle.line_replies.specs.Refusals.{refusal_name}
use Rattle.line_replies.specs.SessionReplies.{Outcome}
use Rattle.line_replies.specs.Replies.{plain_text, left, refusal_line}
use Rattle.json_replies.specs.declared.begin_refusal.BeginRefusal.{BeginRefusal}
use Rattle.json_replies.specs.BeginRefusals.{begin_refusal_name}
use Rattle.json_replies.specs.ObjectLines.{IsLineOfData}
use Rattle.json_replies.specs.Sessions.{session_data}
use Rattle.json_replies.specs.Texts.{text_data, lines_data}

-- the name of a refusal, or null
abbrev pub name_data : Option (List ℕ) → Data
name_data (Some name) = text_data name
name_data None = null

-- what each object has: the refusal, the lines of the reply, the session that is left
abbrev pub reply_members : Option (List ℕ) → List ℕ → Data → Members
reply_members refused reply session =
    member (codes "refused") (name_data refused)
    (member (codes "reply") (lines_data reply)
    (member (codes "session") session no_members))

-- the object of a reply
abbrev pub reply_data : Option (List ℕ) → List ℕ → Data → Data
reply_data refused reply session = object (reply_members refused reply session)

-- the name of the refusal that an outcome is, if it is one
abbrev pub refused_name : {P : Type 0} → Outcome P → Option (List ℕ)
refused_name (Ok said) = None
refused_name (Err refusal) = Some (refusal_name refusal)

-- what answers a line: an outcome as the plain program has it, or why a line begins no game
abbrev pub Answer : Type 0 → Type 0
Answer P = Result (Outcome P) BeginRefusal

-- the name of the refusal that an answer is, if it is one
abbrev pub answer_name : {P : Type 0} → Answer P → Option (List ℕ)
answer_name (Ok outcome) = refused_name outcome
answer_name (Err refusal) = Some (begin_refusal_name refusal)

-- the lines of text of an answer
abbrev pub answer_text : {P : Type 0} → Answer P → List ℕ
answer_text (Ok outcome) = plain_text outcome
answer_text (Err refusal) = refusal_line (begin_refusal_name refusal)

-- the session that is left: a refusal leaves the one before
abbrev pub session_left : {P : Type 0} → Option (History P) → Answer P → Option (History P)
session_left old (Ok outcome) = left old outcome
session_left old (Err refusal) = old

-- the line of the object of an answer, and of the session that is left
abbrev pub IsAnswerLine : {P : Type 0} → GameFacts P → Answer P → Option (History P) → List ℕ → Type 0
IsAnswerLine f answer new bytes =
    IsLineOfData (reply_data (answer_name answer) (answer_text answer) (session_data f new)) bytes

-- the line of the object of an outcome, and of the session that is left
abbrev pub IsReplyLine : {P : Type 0} → GameFacts P → Outcome P → Option (History P) → List ℕ → Type 0
IsReplyLine f outcome new bytes = IsAnswerLine f (Ok outcome) new bytes
