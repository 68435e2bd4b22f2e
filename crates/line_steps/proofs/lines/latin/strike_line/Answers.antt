use Rattle.std.proofs.Common.{ℕ, [], refl, sym, ap, ◌∙◌, subst}
use Rattle.number_sets.specs.Sets.{has_number}
use Rattle.number_sets.proofs.Members.{has_number-none}
use Rattle.trail_solver.specs.Candidates.{CandidatesValue}
use Rattle.line_steps.specs.Inner.LineStrikes.{IsLiveLine}
use Rattle.line_steps.specs.Inner.LineTallies.{IsTallyOf}
use Rattle.line_steps.proofs.LinePasses.{rest_leads, rest_quiet}
use Rattle.line_steps.proofs.LineTallying.{quiet_tally, tally_live}
use Rattle.line_steps.proofs.StayingLines.{loses_changed}
use Rattle.line_steps.proofs.TakenLines.{changed_none}
use Rattle.line_steps.proofs.lines.latin.strike_line.Goals as goal

pub returns-then-is_quiet-clause-leads : goal.returns-then-is_quiet-clause-leads
returns-then-is_quiet-clause-leads c = record { steps = []; chain = tt; allowed = tt; is = refl }

pub returns-then-is_quiet-clause-loses : goal.returns-then-is_quiet-clause-loses
returns-then-is_quiet-clause-loses c =
    let old = c.args.candidates.now in
    loses_changed c.args.line c.empty.result old old
    (changed_none c.args.line c.empty.result old (λ k. ap (λ (n : ℕ). has_number n k) c.empty.ensures ∙ has_number-none k))

pub returns-then-is_quiet-clause-quiet : goal.returns-then-is_quiet-clause-quiet
returns-then-is_quiet-clause-quiet c = λ none.
    let old = c.args.candidates.now in
    let tally : IsTallyOf c.args.line old c.in-Ok.tally = rw c.line-squares.ensures.line at c.in-Ok.ensures.ok in
    record { live = tally_live old c.args.line c.in-Ok.tally tally; quiet = quiet_tally old c.args.line c.in-Ok.tally tally c.if-is_quiet.ensures }

pub returns-clause-leads : goal.returns-clause-leads
returns-clause-leads c =
    rest_leads c.args.line c.strike_along.result c.args.candidates.now c.strike_along.new.candidates c.requires
    (rw c.line-squares.ensures.line at c.strike_along.ensures)

pub returns-clause-loses : goal.returns-clause-loses
returns-clause-loses c =
    loses_changed c.args.line c.strike_along.result c.args.candidates.now c.strike_along.new.candidates
    (rw c.line-squares.ensures.line at c.strike_along.ensures).changed

pub returns-clause-quiet : goal.returns-clause-quiet
returns-clause-quiet c = λ none.
    let old = c.args.candidates.now in
    let line = c.args.line in
    let struck = rw c.line-squares.ensures.line at c.strike_along.ensures in
    record {
      live = subst (λ (d : CandidatesValue). IsLiveLine line d) (sym (struck.changed.same none))
          (tally_live old line c.in-Ok.tally (rw c.line-squares.ensures.line at c.in-Ok.ensures.ok));
      quiet = rest_quiet line c.strike_along.result old c.strike_along.new.candidates struck none;
    }
