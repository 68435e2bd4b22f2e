use Rattle.line_steps.specs.Reasons.{StruckBy}
use Rattle.step_chains.proofs.BoundHints.{result_of_grid}
use Rattle.step_chains.proofs.hints.next_hint.Goals as goal

pub returns : goal.returns
returns g c =
    let p = c.args.p.now in
    result_of_grid (g.P.Rules.puzzle p) (StruckBy g.P.Rules.puzzle g.P.Steps.own p) c.args.grid.now c.view_of.result c.next_hint_from.result
    c.requires c.view_of.ensures c.next_hint_from.ensures
