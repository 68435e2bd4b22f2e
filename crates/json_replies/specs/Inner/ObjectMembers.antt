-- The members of an object, in the order of their keys.
use Rattle.std.specs.Prelude.{ℕ, List, [], ◌∷◌, ◌++◌, codes, if◌then◌else◌, Option, None}
use Rattle.json.specs.Written.{Written}
use Rattle.serde_json.specs.Data.{Data}
use Rattle.play_midend.specs.Histories.{History}
use Rattle.line_replies.specs.GameFacts.{GameFacts}
use Rattle.line_replies.specs.SessionReplies.{shown_board}
use Rattle.json_replies.specs.declared.further_line.FurtherLine.{FurtherLine}
use Rattle.json_replies.specs.FurtherLines.{BoardFacts, IsAnswer, further_key, is_last_key}
use Rattle.json_replies.specs.Replies.{name_data}
use Rattle.json_replies.specs.Texts.{lines_data}
use Rattle.json_replies.specs.Inner.WrittenData.{MembersFollow}

-- what each object has before its session
abbrev pub said_list : Option (List ℕ) → List ℕ → List (List ℕ × Data)
said_list refused reply = (codes "refused", name_data refused) ∷ (codes "reply", lines_data reply) ∷ []

-- what each object has
abbrev pub reply_list : Option (List ℕ) → List ℕ → Data → List (List ℕ × Data)
reply_list refused reply session = said_list refused reply ++ (codes "session", session) ∷ []

-- what each object has, with an answer where its key stands
abbrev pub further_list : FurtherLine → Data → Data → List (List ℕ × Data)
further_list which answer session =
    if is_last_key which then reply_list None [] session ++ (further_key which, answer) ∷ []
    else (further_key which, answer) ∷ reply_list None [] session

-- an answer to one of the lines beside the commands follows, among such members
abbrev pub AnswerFollows : {P : Type 0} → GameFacts P → BoardFacts P → History P → FurtherLine
    → (Data → List (List ℕ × Data)) → Written → Written → Type 0
AnswerFollows f b h which members old new =
    (answer : Data) × IsAnswer f b h.puzzle (shown_board f h) which answer × MembersFollow (members answer) old new
