-- The duties of a format: its words are its own, and the session left is one that an answer to a line leaves.
use Rattle.std.specs.Prelude.{◌≡◌, ℕ, List, Option}
use Rattle.play_midend.specs.Histories.{History}
use Rattle.line_replies.specs.Lines.{Line, ReplyRule}
use Rattle.line_replies.specs.GameFacts.{GameFacts}
use Rattle.line_replies.specs.SessionReplies.{Outcome}
use Rattle.line_replies.specs.Replies.{LineGives, left}

-- some answer to the line leaves this session
abbrev pub Leaves : {P : Type 0} → GameFacts P → Option (History P) → Line → Option (History P) → Type 0
Leaves {P} f old line new = (outcome : Outcome P) × LineGives f old line outcome × (new ≡ left old outcome)

-- each reply of the rule leaves what an answer to some line leaves: to the line itself or to one in its place
abbrev pub LeavesAsAnswers : {P : Type 0} → GameFacts P → ReplyRule (Option (History P)) → Type 0
LeavesAsAnswers {P} f reply =
    (old new : Option (History P)) (line : Line) (bytes : List ℕ) → reply old line bytes new
    → (asked : Line) × Leaves f old asked new
