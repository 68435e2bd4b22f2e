use Rattle.line_replies.specs.GameFacts.{facts_of}
use Rattle.web_turn.proofs.TurnRuns.{turns_are_a_run, texts_are_taken}
use Rattle.web_turn.proofs.turn_laws.laws.Goals as goal

pub returns-clause-run : goal.returns-clause-run
returns-clause-run g c =
    let saves = c.laws-2.ensures in
    turns_are_a_run (facts_of g.P.Rules g.P.Game g.P.Draw) g.T.Format.reply g.met.T.Format.leaves_as_answers c.laws.ensures.stays_storable
    saves.one_session saves.saves_are_storable saves.written_saves_no_other

pub returns-clause-taken : goal.returns-clause-taken
returns-clause-taken g c =
    let saves = c.laws-2.ensures in
    texts_are_taken (facts_of g.P.Rules g.P.Game g.P.Draw) g.T.Format.reply g.met.T.Format.leaves_as_answers c.laws.ensures.stays_storable
    saves.one_session saves.saves_are_storable saves.written_saves_no_other saves.fault_or_session saves.written_is_saved
