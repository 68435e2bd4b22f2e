use Rattle.board_checks.proofs.Clues.{edge_told}
use Rattle.board_checks.proofs.towers.TowersDemands.is_broken.Goals as goal

pub returns-in-Edge : goal.returns-in-Edge
returns-in-Edge c =
    edge_told c.args.self.now c.args.grid.now c.args.spot c.in-Edge.place c.breaks_clue.result c.in-Edge.is c.breaks_clue.ensures
