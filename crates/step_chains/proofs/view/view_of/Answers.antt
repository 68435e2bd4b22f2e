use Rattle.step_chains.proofs.Unseen.{unseen_gone}
use Rattle.step_chains.proofs.view.view_of.Goals as goal

pub loop-cell-preserved : goal.loop-cell-preserved
loop-cell-preserved c =
    unseen_gone c.args.grid.now c.loop-cell.cell c.unseen_in.result c.loop-cell.candidates c.strike.new.candidates c.loop-cell.invariant c.strike.ensures c.unseen_in.ensures
