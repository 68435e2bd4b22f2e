use Rattle.line_steps.specs.Reasons.{StruckBy}
use Rattle.step_chains.specs.Inner.Views.{seen}
use Rattle.std.proofs.Common.{◌∙◌}
use Rattle.step_chains.proofs.NextHints.{left_on, left_size, over_found}
use Rattle.step_chains.proofs.first_aims.go_on.Goals as goal

pub settle-requires : goal.settle-requires
settle-requires g c =
    left_size (StruckBy g.P.Rules.puzzle g.P.Steps.own c.args.p.now) c.args.grade (seen c.args.grid.now c.args.view.now) c.args.settled.now c.requires.from ∙ c.requires.size

pub returns-clause-left : goal.returns-clause-left
returns-clause-left g c =
    left_on (StruckBy g.P.Rules.puzzle g.P.Steps.own c.args.p.now) c.args.grade (seen c.args.grid.now c.args.view.now) c.args.settled.now c.settle.new.candidates c.requires.from
    c.settle.ensures.leads

pub returns-clause-over : goal.returns-clause-over
returns-clause-over g c =
    let Struck = StruckBy g.P.Rules.puzzle g.P.Steps.own c.args.p.now in
    let b = (seen c.args.grid.now c.args.view.now) in
    let d = c.settle.new.candidates in
    let left = left_on Struck c.args.grade b c.args.settled.now d c.requires.from c.settle.ensures.leads in
    over_found Struck c.args.grade b d c.settle.result c.first_empty.result left c.settle.ensures.settled c.settle.ensures.emptied
    c.first_empty.ensures
