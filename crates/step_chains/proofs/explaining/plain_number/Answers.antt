use Rattle.line_steps.specs.Reasons.{StruckBy}
use Rattle.step_chains.specs.Inner.Views.{seen}
use Rattle.std.proofs.Common.{subst}
use Rattle.step_chains.specs.declared.aims.Aim.{Aim}
use Rattle.step_chains.specs.declared.aims.Aim.TheVariants.{Number}
use Rattle.step_chains.specs.ChainValues.{steps_of}
use Rattle.step_chains.specs.Inner.Aims.{IsReached, aim_goal}
use Rattle.step_chains.specs.Inner.FromEachView.{AreNeededFrom}
use Rattle.step_chains.proofs.NextHints.{aim_stays}
use Rattle.step_chains.proofs.explaining.plain_number.Goals as goal

pub returns-clause-is : goal.returns-clause-is
returns-clause-is g c =
    let Struck = StruckBy g.P.Rules.puzzle g.P.Steps.own c.args.p.now in
    let b = (seen c.args.grid.now c.args.view.now) in
    let found = c.in_ok-found.found in
    let stays = aim_stays Struck c.args.grade b (Number c.args.goal) found.aim c.in_ok-found.ensures.aim.1 c.requires.holds in
    let reached = subst (λ (a : Aim). IsReached Struck c.args.grade b (steps_of found.steps.items) (aim_goal a)) stays c.in_ok-found.ensures.is in
    record {
      view = reached.view;
      in_view = reached.in_view;
      explains = record { goal_of = c.requires.open.0; empty = c.requires.open.1; shows = reached.shows; tight = reached.tight };
    }

pub returns-clause-needed : goal.returns-clause-needed
returns-clause-needed g c =
    let Struck = StruckBy g.P.Rules.puzzle g.P.Steps.own c.args.p.now in
    let b = (seen c.args.grid.now c.args.view.now) in
    let found = c.in_ok-found.found in
    subst (λ (a : Aim). AreNeededFrom Struck c.args.grade b (steps_of found.steps.items) (aim_goal a))
    (aim_stays Struck c.args.grade b (Number c.args.goal) found.aim c.in_ok-found.ensures.aim.1 c.requires.holds) c.in_ok-found.ensures.needed
