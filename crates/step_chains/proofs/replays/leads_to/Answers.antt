use Rattle.std.proofs.Common.{refl}
use Rattle.line_steps.specs.Reasons.{StruckBy}
use Rattle.step_chains.specs.ChainValues.{steps_of}
use Rattle.step_chains.specs.Inner.Aims.{aim_goal}
use Rattle.step_chains.proofs.Followed.{shows_tested}
use Rattle.step_chains.proofs.replays.leads_to.Goals as goal

pub returns-clause-shows : goal.returns-clause-shows
returns-clause-shows g c =
    shows_tested (StruckBy g.P.Rules.puzzle g.P.Steps.own c.args.p.now) c.args.grade c.args.candidates.now c.follow.new.candidates
    (steps_of c.args.steps.now) (aim_goal c.args.aim) c.is_met.result (c.if-not-follow.ensures.leads refl) c.is_met.ensures
