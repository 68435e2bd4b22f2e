use Rattle.line_steps.specs.Reasons.{StruckBy}
use Rattle.std.proofs.Common.{Ok}
use Rattle.step_chains.specs.NextHints.{IsHint}
use Rattle.step_chains.proofs.BoundHints.{result_of_grid}
use Rattle.json_replies.proofs.further.hint_answer.Goals as goal

pub returns : goal.returns
returns g c =
    let p = c.args.puzzle.now in
    let Struck = StruckBy g.P.Rules.puzzle g.P.Steps.own p in
    let grid = c.args.grid.now in
    let hint = c.in_ok-hint.hint in
    let view = c.view_of-view.result in
    let of_grid : IsHint (g.P.Rules.puzzle p) Struck grid hint =
    result_of_grid (g.P.Rules.puzzle p) Struck grid view (Ok hint) c.requires c.view_of-view.ensures c.in_ok-hint.ensures in
    let is : IsHint (g.P.Rules.puzzle p) Struck grid hint =
    record { view = view; in_view = c.view_of-view.ensures; is_hint = c.in_ok-hint.ensures; right = of_grid.right } in
    let (value, told, follow) = c.in_ok-write_hint.ensures in
    (value, (hint, is, told), follow)
