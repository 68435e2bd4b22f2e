use Rattle.line_steps.specs.Reasons.{StruckBy}
use Rattle.std.proofs.Common.{◌≡◌, ℕ, ap, ◌∙◌, subst, arith}
use Rattle.number_sets.proofs.Members.{has_number-none}
use Rattle.number_sets.specs.Sets.{has_number}
use Rattle.line_steps.specs.Inner.ReasonsAlong.{IsNthAlong}
use Rattle.line_steps.proofs.Leads.{leads_size}
use Rattle.line_steps.proofs.StayingLines.{loses_changed}
use Rattle.line_steps.proofs.ReasonsAlong.{begins, goes_on, goes_through}
use Rattle.line_steps.proofs.steps.clue_passes.strike_by_reasons.Goals as goal

pub loop-n-init : goal.loop-n-init
loop-n-init g c =
    begins (StruckBy g.P.Rules.puzzle g.P.Steps.own c.args.p.now) c.args.grade c.args.line c.empty-changed.result c.args.candidates.now
    (λ k. ap (λ (n : ℕ). has_number n k) c.empty-changed.ensures ∙ has_number-none k)

pub strike_by_reason-more-requires-clause-size : goal.strike_by_reason-more-requires-clause-size
strike_by_reason-more-requires-clause-size g c = leads_size _ _ _ _ c.loop-n.invariant.leads ∙ c.requires.size

pub strike_by_reason-more-requires-clause-line : goal.strike_by_reason-more-requires-clause-line
strike_by_reason-more-requires-clause-line g c =
    let same = leads_size _ _ _ _ c.loop-n.invariant.leads in
    omega (arith, same, c.requires.line)

pub loop-n-preserved : goal.loop-n-preserved
loop-n-preserved g c =
    let first = c.args.candidates.now in
    let size : c.size-size.result ≡ first.size = c.size-size.ensures.value in
    let nth : IsNthAlong first.size c.args.line c.loop-n.n c.reason_along-reason.result =
    subst (λ (w : ℕ). IsNthAlong w c.args.line c.loop-n.n c.reason_along-reason.result) size c.reason_along-reason.ensures in
    goes_on (StruckBy g.P.Rules.puzzle g.P.Steps.own c.args.p.now) c.args.grade c.args.line c.loop-n.n c.loop-n.changed c.strike_by_reason-more.result
    c.union-changed.result c.reason_along-reason.result first c.loop-n.candidates c.strike_by_reason-more.new.candidates c.union-changed.ensures.members nth
    c.strike_by_reason-more.ensures.leads c.strike_by_reason-more.ensures.changed c.strike_by_reason-more.ensures.quiet c.loop-n.invariant

pub returns : goal.returns
returns g c = record {
  leads = c.loop-n.invariant.leads;
  loses = loses_changed _ _ _ _ c.loop-n.invariant.went;
  quiet = goes_through (StruckBy g.P.Rules.puzzle g.P.Steps.own c.args.p.now) c.args.grade c.args.line c.loop-n.n c.loop-n.changed c.args.candidates.now c.loop-n.candidates
      (omega (arith, c.loop-n-test.false, c.get.ensures.value, c.size-size.ensures.value)) c.loop-n.invariant;
}
