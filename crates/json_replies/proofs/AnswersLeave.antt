-- The lines beside the commands leave the session.
use Rattle.std.proofs.Common.{Option, subst}
use Rattle.line_replies.specs.GameFacts.{GameFacts}
use Rattle.json_replies.specs.FurtherLines.{BoardFacts, Further}
use Rattle.json_replies.specs.JsonReplies.{TellsLine}
use Rattle.json_replies.specs.ReplyLaws.{AnswersLeave}

pub answers_leave : {P : Type 0} (f : GameFacts P) (b : BoardFacts P) → AnswersLeave f b
answers_leave f b line asked old new bytes is reply =
    subst (λ (w : Option Further). TellsLine f b old line w bytes new) is reply.told
