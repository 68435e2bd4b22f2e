use Rattle.std.proofs.Common.{ap, ◌∙◌}
use Rattle.fair_games.proofs.RowSteps.{with_row_size}
use Rattle.fair_games.proofs.square.draw_row.Goals as goal

pub returns-then-find_row-clause-size : goal.returns-then-find_row-clause-size
returns-then-find_row-clause-size g c = ap (λ v. v.size) c.write_row.ensures ∙ with_row_size c.args.grid.now c.args.row _ _ _
