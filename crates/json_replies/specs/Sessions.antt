-- The data that tell the session that is left.
use Rattle.std.specs.Prelude.{◌+◌, length, codes, Option, Some, None}
use Rattle.serde_json.specs.Data.{Data, null, string, object, no_members, member}
use Rattle.play_midend.specs.Histories.{History}
use Rattle.line_replies.specs.BoardTexts.{status_word}
use Rattle.line_replies.specs.GameFacts.{GameFacts}
use Rattle.line_replies.specs.SessionReplies.{shown_board, id_words}
use Rattle.json_replies.specs.Counts.{count_data}
use Rattle.json_replies.specs.Texts.{text_data}

-- the game, its ID, which state is shown, how many there are, and whether it is solved
abbrev pub game_data : {P : Type 0} → GameFacts P → History P → Data
game_data f h = object
    (member (codes "game") (string f.title)
    (member (codes "id") (text_data (id_words f h))
    (member (codes "position") (count_data h.position)
    (member (codes "states") (count_data (length h.moves + 1))
    (member (codes "status") (string (status_word (shown_board f h)))
    no_members)))))

-- the session, or null where there is none
abbrev pub session_data : {P : Type 0} → GameFacts P → Option (History P) → Data
session_data f None = null
session_data f (Some h) = game_data f h
