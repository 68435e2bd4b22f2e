use Rattle.std.proofs.Common.{◌≡◌, Bool, true, false, ◌∙◌, subst, arith}
use Rattle.std.specs.Bool.{OnTrue}
use Rattle.line_steps.proofs.LineLooks.{lines_live}
use Rattle.line_steps.proofs.Leads.{leads_size}
use Rattle.line_steps.proofs.Narrowed.{on_true}
use Rattle.line_steps.proofs.Rounds.{look_settled}
use Rattle.line_steps.specs.Reasons.{StruckBy}
use Rattle.line_steps.proofs.steps.settling.settle.Goals as goal

-- what follows of two facts of an answer that is true, one of them where groups are looked at
on_both : (left groups : Bool) {P Q R : Type 0} → (P → (groups ≡ true → Q) → R) → OnTrue left P → OnTrue left (OnTrue groups Q) → OnTrue left R
on_both true groups {Q = Q} f p q = f p (λ is. subst (λ (b : Bool). OnTrue b Q) is q)
on_both false groups f p q = tt

pub returns-clause-settled : goal.returns-clause-settled
returns-clause-settled g c =
    let p = c.args.p.now in
    let new = c.settle_lines.new.candidates in
    let size = leads_size (StruckBy g.P.Rules.puzzle g.P.Steps.own p) c.args.grade c.args.candidates.now new c.settle_lines.ensures.leads in
    on_both c.settle_lines.result c.has_groups.result
    (λ quiet groups. look_settled (g.P.Rules.puzzle p) (g.P.Steps.own p)
    (λ d reason cell value. g.met.P.Steps.stands_along p d reason cell value c.size-valid.ensures.valid) c.args.grade new
    (omega (arith, size, c.size-size.ensures.valid.largest)) (size ∙ c.requires) c.settle_lines.ensures.givens quiet
    (λ past. groups (c.has_groups.ensures.past.1 past))) c.settle_lines.ensures.quiet c.settle_lines.ensures.groups

pub returns-clause-live : goal.returns-clause-live
returns-clause-live g c =
    on_true c.settle_lines.result (λ quiet. lines_live c.settle_lines.new.candidates (λ line low. quiet line low true)) c.settle_lines.ensures.quiet
