use Rattle.line_steps.specs.Reasons.{StruckBy}
use Rattle.step_texts.proofs.JoinedSteps.{joined_more, last_is}
use Rattle.step_texts.proofs.looks.joined_steps.Goals as goal

pub loop-at-preserved : goal.loop-at-preserved
loop-at-preserved g c =
    let Struck = StruckBy g.P.Rules.puzzle g.P.Steps.own c.args.p.now in
    let w = (g.P.Rules.puzzle c.args.p.now).size in
    let at = c.loop-at.at in
    let step = c.index-steps-at.result in (
      joined_more Struck w c.args.candidates.now c.args.first.now c.args.steps.now at step c.loop-at.last c.loop-at-test.true c.index-steps-at.is
          c.loop-at.invariant.1 c.loop-at.invariant.0 (c.is_joinable.ensures.0 c.if-not-is_joinable.false),
      last_is c.args.first.now.cell at c.args.steps.now step c.loop-at-test.true c.index-steps-at.is,
    )
