use Rattle.std.proofs.Common.{arith}
use Rattle.line_steps.proofs.Leads.{leads_size}
use Rattle.line_steps.proofs.LinePasses.{lines_lead}
use Rattle.line_steps.proofs.lines.settling.strike_along.Goals as goal

pub returns-then-squares-clause-leads : goal.returns-then-squares-clause-leads
returns-then-squares-clause-leads g c =
    lines_lead (g.P.LinePass.puzzle c.args.p.now) (g.P.LinePass.own c.args.p.now) _ _ _ c.requires.size c.strike_line.ensures.leads

pub is_emptied_at-requires : goal.is_emptied_at-requires
is_emptied_at-requires g c =
    let then = leads_size _ _ _ _ c.strike_by_clues-places.ensures.leads in
    omega (arith, then, c.requires.line)
