use Rattle.line_steps.specs.Laws.Less.{all_less}
use Rattle.line_steps.specs.Reasons.{StruckBy}
use Rattle.std.proofs.Common.{take}
use Rattle.step_chains.specs.ChainValues.{steps_of}
use Rattle.step_chains.specs.Inner.Aims.{aim_goal}
use Rattle.step_chains.proofs.Pieces.{rest_tested}
use Rattle.step_chains.proofs.Followed.{leads_known}
use Rattle.step_chains.proofs.tightening.shows_on.Goals as goal

pub returns-clause-shows : goal.returns-clause-shows
returns-clause-shows g c = λ chain.
    let Struck = StruckBy g.P.Rules.puzzle g.P.Steps.own c.args.p.now in
    let start = c.args.candidates.now in
    rest_tested Struck (all_less (g.P.Rules.puzzle c.args.p.now) (g.P.Steps.own c.args.p.now) (g.met.P.Steps.own_less c.args.p.now)) c.args.grade start c.take_all.new.candidates
    c.args.steps.now c.args.index (aim_goal c.args.aim) c.still_come_to-shows.result
    (leads_known Struck c.args.grade start c.take_all.new.candidates (steps_of (take c.args.index c.args.steps.now)) chain c.take_all.ensures.size c.take_all.ensures.alike)
    c.still_come_to-shows.ensures.shows
