use Rattle.line_steps.specs.Laws.Less.{all_less}
use Rattle.line_steps.specs.Reasons.{StruckBy}
use Rattle.step_chains.specs.Inner.Views.{seen}
use Rattle.std.proofs.Common.{sym, ◌∙◌}
use Rattle.step_chains.specs.ChainValues.{steps_of}
use Rattle.step_chains.specs.Inner.Aims.{aim_goal}
use Rattle.step_chains.proofs.Explanations.{all_come_to, all_refute, shows_in, views_fewer}
use Rattle.step_chains.proofs.Live.{timely_more}
use Rattle.step_chains.proofs.explaining.plain_chain.Goals as goal

pub tighten-requires-clause-shows : goal.tighten-requires-clause-shows
tighten-requires-clause-shows g c =
    let Struck = StruckBy g.P.Rules.puzzle g.P.Steps.own c.args.p.now in
    let b = (seen c.args.grid.now c.args.view.now) in
    let less = all_less (g.P.Rules.puzzle c.args.p.now) (g.P.Steps.own c.args.p.now)
    (g.met.P.Steps.own_less c.args.p.now) in
    let first = c.copy_of-left.result in
    let steps = steps_of c.in_ok-steps.steps.items in
    let end = c.or_nothing-aim.result in
    shows_in Struck less c.args.grade b first c.copy_of.result steps (aim_goal end) c.copy_of-left.ensures
    c.copy_of.ensures
    (all_come_to Struck c.args.grade b first c.all_steps.new.candidates steps c.args.aim end c.copy_of-left.ensures
    c.in_ok-steps.ensures.leads c.in_ok-steps.ensures.settled c.requires.reached c.or_nothing-aim.ensures)

pub returns-clause-aim : goal.returns-clause-aim
returns-clause-aim g c =
    all_refute (StruckBy g.P.Rules.puzzle g.P.Steps.own c.args.p.now) c.args.grade (seen c.args.grid.now c.args.view.now)
    c.copy_of-left.result c.all_steps.new.candidates (steps_of c.in_ok-steps.steps.items) c.args.aim
    c.or_nothing-aim.result c.copy_of-left.ensures c.in_ok-steps.ensures.leads c.requires.aim c.or_nothing-aim.ensures

pub returns-clause-timely : goal.returns-clause-timely
returns-clause-timely g c =
    let b = (seen c.args.grid.now c.args.view.now) in
    let first = c.copy_of-left.result in
    let second = c.copy_of.result in
    let size = c.copy_of.ensures.size ∙ sym c.copy_of-left.ensures.size in (
      second,
      c.copy_of.ensures,
      c.tighten.ensures.timely (timely_more second first (steps_of c.in_ok-steps.steps.items) size
          (views_fewer b second first c.copy_of.ensures c.copy_of-left.ensures) c.in_ok-steps.ensures.timely),
    )

pub returns-clause-needed : goal.returns-clause-needed
returns-clause-needed g c = (c.copy_of.result, c.copy_of.ensures, c.tighten.ensures.needed)
