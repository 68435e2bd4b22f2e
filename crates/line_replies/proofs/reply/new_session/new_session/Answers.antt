use Rattle.line_replies.specs.GameFacts.{undrawn_facts}
use Rattle.line_replies.specs.NewSessions.{new_game, TextBegins}
use Rattle.line_replies.proofs.Starting.{refused_for_memory}
use Rattle.line_replies.proofs.reply.new_session.new_session.Goals as goal

pub returns-clause-why : goal.returns-clause-why
returns-clause-why g c =
    refused_for_memory (TextBegins (undrawn_facts g.P.Rules g.P.Game) c.args.id.now)
    (new_game c.in_ok-params.params c.in_ok-params.puzzle) c.begin_game.result c.in_ok-params.ensures.ok c.begin_game.ensures.why
