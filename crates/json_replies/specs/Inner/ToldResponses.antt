-- The response that tells what `execute` answered, and what is told to a line that begins a game.
use Rattle.std.specs.Prelude.{◌≡◌, ℕ, List, Option, Result, Ok, Err}
use Rattle.play_midend.specs.Histories.{History}
use Rattle.line_replies.specs.declared.machine.Response.{Response}
use Rattle.line_replies.specs.declared.machine.Response.TheVariants.{Reply, Silence, Quit}
use Rattle.line_replies.specs.declared.reply.refusal.Refusal.{Refusal}
use Rattle.line_replies.specs.GameFacts.{GameFacts}
use Rattle.line_replies.specs.Texts.{text_bytes}
use Rattle.json_replies.specs.ObjectLines.{OrLost}
use Rattle.json_replies.specs.declared.begin_line.BeginLine.{BeginLine}
use Rattle.json_replies.specs.Replies.{Answer, session_left, IsReplyLine}
use Rattle.json_replies.specs.FurtherLines.{BoardFacts}
use Rattle.json_replies.specs.BeginReplies.{BeginGives}
use Rattle.json_replies.specs.JsonReplies.{TellsOutcome, TellsAnswer}

-- a reply or a refusal is told by its object, where this session is left; silence and quit stay as they are
abbrev pub TellsResponse : {P : Type 0} → GameFacts P → Result Response Refusal → Option (History P) → Response → Type 0
TellsResponse f (Ok (Reply said)) new (Reply text) = TellsOutcome f (Ok (text_bytes said, new)) new (text_bytes text)
TellsResponse f (Ok Silence) new Silence = Unit {0}
TellsResponse f (Ok Quit) new Quit = Unit {0}
TellsResponse f (Err refusal) new (Reply text) = OrLost (IsReplyLine f (Err refusal) new) (text_bytes text)
TellsResponse f _ new _ = ⊥

-- the bytes are told to a line that asks for this game, and the session is the one that is left
abbrev pub TellsBegun : {P : Type 0} → GameFacts P → BoardFacts P → Option (History P) → BeginLine (List ℕ) → List ℕ
    → Option (History P) → Type 0
TellsBegun {P} f b old asked bytes new =
    (answer : Answer P) × BeginGives f b old asked answer × (new ≡ session_left old answer)
    × TellsAnswer f answer new bytes
