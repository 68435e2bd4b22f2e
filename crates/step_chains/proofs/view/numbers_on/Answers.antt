use Rattle.step_chains.proofs.Unseen.{number_added}
use Rattle.std.proofs.Common.{ap, ◌∙◌}
use Rattle.latin_board.specs.Squares.{number_at}
use Rattle.latin_board.specs.Lines.{line_cell}
use Rattle.step_chains.proofs.view.numbers_on.Goals as goal

pub loop-k-preserved : goal.loop-k-preserved
loop-k-preserved c =
    let g = c.args.grid.now in
    number_added g c.args.line c.loop-k.k c.get-number.result c.loop-k.found c.one.result c.union-found.result
    (c.get-number.ensures.value ∙ ap (number_at g) (c.line_cell.ensures.value ∙ ap (λ w. line_cell w c.args.line c.loop-k.k) c.size-size.ensures.value))
    c.loop-k.invariant c.one.ensures.members c.union-found.ensures.members
