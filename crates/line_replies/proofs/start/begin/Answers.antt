use Rattle.needed_items.proofs.ItemLaws.{laws_of}
use Rattle.play_save.proofs.LoadAnswers.{saves_are_storable}
use Rattle.line_replies.specs.GameFacts.{undrawn_facts}
use Rattle.line_replies.proofs.StorableReplies.{begins_storable}
use Rattle.line_replies.proofs.start.begin.Goals as goal

pub returns-in_ok-new_session-in-Some-default-clause-storable : goal.returns-in_ok-new_session-in-Some-default-clause-storable
returns-in_ok-new_session-in-Some-default-clause-storable g c =
    let begun = c.in_ok-new_session-in-Some-default in
    begins_storable (undrawn_facts g.P.Rules g.P.Game) (laws_of g.met.P.Rules) _ _ begun.ensures.ok

pub returns-in_ok-load-in-None-Some-clause-storable : goal.returns-in_ok-load-in-None-Some-clause-storable
returns-in_ok-load-in-None-Some-clause-storable g c =
    let loaded = c.in_ok-load-in-None-Some in
    saves_are_storable g.P.Rules g.P.Game loaded.field-0 _ loaded.ensures.found
