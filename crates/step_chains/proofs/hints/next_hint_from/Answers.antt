use Rattle.line_steps.specs.Laws.Less.{all_less}
use Rattle.line_steps.specs.Reasons.{StruckBy}
use Rattle.step_chains.proofs.BoundHints.{result_bound}
use Rattle.step_chains.proofs.hints.next_hint_from.Goals as goal

pub returns : goal.returns
returns g c =
    let p = c.args.p.now in
    let is = c.hint_knowing.ensures in
    result_bound (g.P.Rules.puzzle p) (StruckBy g.P.Rules.puzzle g.P.Steps.own p)
    (all_less (g.P.Rules.puzzle p) (g.P.Steps.own p) (g.met.P.Steps.own_less p)) c.args.grid.now c.args.view.now c.hint_knowing.result c.requires.view
    is.least is.timely is.needed is.right is.forced
