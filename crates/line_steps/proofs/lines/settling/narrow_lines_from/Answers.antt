use Rattle.line_steps.specs.Laws.Sound.{all_sound}
use Rattle.line_steps.specs.Reasons.{AllStrikes}
use Rattle.line_steps.proofs.KeptSolutions.{IsSoundFor}
use Rattle.line_steps.proofs.Leads.{leads_earlier}
use Rattle.line_steps.proofs.Narrowed.{leads_keep, leads_refute}
use Rattle.line_steps.proofs.lines.settling.narrow_lines_from.Goals as goal

pub returns : goal.returns
returns g c =
    let p = c.args.p.now in
    let puzzle = g.P.LinePass.puzzle p in
    let Struck = AllStrikes puzzle (g.P.LinePass.own p) in
    let grade = g.P.LinePass.grade p in
    let sound : IsSoundFor puzzle Struck =
    all_sound puzzle (g.P.LinePass.own p) (λ d reason cell value h. g.met.P.LinePass.own_sound p d reason cell value h c.requires.valid) in
    let old = c.args.candidates.now in
    let new = c.look.new.candidates in
    let leads = c.look.ensures.leads in
    record {
      less = leads_earlier Struck grade old new leads;
      keeps = leads_keep puzzle Struck sound grade old new c.requires.size leads;
      refutes = leads_refute puzzle Struck sound grade old new c.look.result c.requires.size leads c.look.ensures.emptied;
    }
