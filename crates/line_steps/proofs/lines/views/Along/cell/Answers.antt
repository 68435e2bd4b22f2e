use Rattle.latin_board.proofs.LatinLines.{line_cell_inside}
use Rattle.line_steps.proofs.lines.views.Along.cell.Goals as goal

pub returns-clause-inside : goal.returns-clause-inside
returns-clause-inside c =
    let leads = c.args.self.now.leads in
    rw (leads.each c.args.k c.requires) (line_cell_inside c.args.self.now.size c.args.self.now.line c.args.k leads.line_is c.requires)
