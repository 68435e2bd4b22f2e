use Rattle.std.proofs.Common.{Err, ap, ◌∙◌}
use Rattle.std.specs.Option.{option_copied}
use Rattle.line_replies.specs.GameFacts.{facts_of}
use Rattle.line_replies.specs.Replies.{refusal_line}
use Rattle.line_replies.proofs.PlainReplies.{said_plainly}
use Rattle.line_replies.proofs.format.PlainFormat.answer.Goals as goal

pub returns-in-Ok : goal.returns-in-Ok
returns-in-Ok g c =
    said_plainly (facts_of g.P.Rules g.P.Game g.P.Draw) c.args.session.now c.execute.new.session (option_copied c.args.line) c.in-Ok.response
    c.in-Ok.ensures.ok

pub returns-in-Err : goal.returns-in-Err
returns-in-Err g c = (
  c.in-Err.ensures.goes_on,
  (Err c.in-Err.refusal, c.in-Err.ensures.why, c.refused.ensures ∙ ap refusal_line c.name.ensures.name, c.in-Err.ensures.err),
)
