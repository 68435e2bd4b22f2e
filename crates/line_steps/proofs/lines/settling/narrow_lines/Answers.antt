use Rattle.std.proofs.Common.{ℕ, ◌*◌, ◌<◌, Bool, ◌∙◌, subst}
use Rattle.std.specs.Bool.{OnTrue}
use Rattle.line_steps.specs.Inner.LineLooks.{IsQuietOn}
use Rattle.line_steps.specs.Chains.{LeadsTo}
use Rattle.line_steps.specs.Laws.Less.{all_less}
use Rattle.line_steps.specs.Laws.Sound.{all_sound}
use Rattle.line_steps.specs.Reasons.{StruckBy}
use Rattle.line_steps.proofs.Leads.{leads_on, leads_size}
use Rattle.line_steps.proofs.Narrowed.{narrows_by}
use Rattle.line_steps.specs.declared.grade.Grade.{Grade}
use Rattle.line_steps.specs.declared.grade.Grade.TheVariants.{Hard}
use Rattle.line_steps.proofs.lines.settling.narrow_lines.Goals as goal

pub settle_lines-requires-clause-size : goal.settle_lines-requires-clause-size
settle_lines-requires-clause-size g c = leads_size _ _ _ _ c.strike_first.ensures ∙ c.requires.size

pub returns : goal.returns
returns g c =
    let p = c.args.p.now in
    let puzzle = g.P.LinePass.puzzle p in
    let Own = g.P.LinePass.own p in
    let Struck = StruckBy g.P.LinePass.puzzle g.P.LinePass.own p in
    let old = c.args.candidates.now in
    let new = c.settle_lines.new.candidates in
    let done = c.settle_lines.ensures in
    let Quiet : Grade → Type 0 =
    λ grade. OnTrue c.settle_lines.result ((line : ℕ) → line < 2 * new.size → (what : Bool) → IsQuietOn Struck grade what line new) in
    let lead : LeadsTo Struck Hard old new =
    subst (λ (grade : Grade). LeadsTo Struck grade old new) c.requires.highest (leads_on _ _ _ _ _ c.strike_first.ensures done.leads) in
    let n = narrows_by puzzle Own (all_less puzzle Own (g.met.P.LinePass.own_less p))
    (all_sound puzzle Own (λ d reason cell value h. g.met.P.LinePass.own_sound p d reason cell value h c.requires.valid))
    (λ d reason cell value. g.met.P.LinePass.stands_along p d reason cell value c.requires.valid) old new c.settle_lines.result c.requires.size lead
    done.givens (subst Quiet c.requires.highest done.quiet) done.emptied in
    record {
      less = n.less;
      keeps = n.keeps;
      refutes = n.refutes;
      struck = n.struck;
      settled = n.settled;
      live = n.live;
      leads = lead;
      emptied = done.emptied;
    }
