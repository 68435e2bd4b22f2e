use Rattle.std.proofs.Common.{refl, subst}
use Rattle.json_replies.specs.Boards.{board_data}
use Rattle.json_replies.specs.FurtherLines.{AreErrors}
use Rattle.json_replies.proofs.further.board_answer.Goals as goal

pub returns : goal.returns
returns g c =
    let p = c.args.puzzle.now in
    let shown = c.args.board.now in
    let e = c.errors-errors.result in
    let found = c.errors-errors.ensures in
    let are = subst (λ grid. AreErrors (g.P.Demands.demand p) grid e) c.grid.ensures
    (record { repeated = found.repeated; broken = found.broken }) in (
      board_data (g.P.Rules.puzzle p) shown e (g.P.Shows.clues p shown e) (g.P.Shows.signs p shown e),
      (e, are, refl),
      c.in_ok-write_board.ensures,
    )
