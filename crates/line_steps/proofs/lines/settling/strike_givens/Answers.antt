use Rattle.std.proofs.Common.{◌≡◌, ℕ, ◌+◌, ◌*◌, ◌<◌, inl, inr, sym, ◌∙◌, subst, arith}
use Rattle.std.proofs.lemmas.Bool.{cases_eq}
use Rattle.line_steps.specs.Settled.{IsGivenQuiet}
use Rattle.line_steps.proofs.GivenPasses.{given_stays}
use Rattle.line_steps.proofs.Leads.{leads_fewer, leads_on, leads_size}
use Rattle.line_steps.proofs.lines.settling.strike_givens.Goals as goal

pub strike_given-requires-clause-size : goal.strike_given-requires-clause-size
strike_given-requires-clause-size g c = leads_size _ _ _ _ c.loop-cell.invariant.0 ∙ c.requires

pub strike_given-requires-clause-inside : goal.strike_given-requires-clause-inside
strike_given-requires-clause-inside g c =
    let first = c.args.candidates.now in
    let width : c.get-width.result ≡ first.size = c.get-width.ensures.value ∙ c.size.ensures.value in
    let same = leads_size _ _ _ _ c.loop-cell.invariant.0 in
    subst (λ (n : ℕ). c.loop-cell.cell < n * n) (width ∙ sym same) c.loop-cell-test.true

pub loop-cell-preserved : goal.loop-cell-preserved
loop-cell-preserved g c =
    let first = c.args.candidates.now in
    let now = c.loop-cell.candidates in
    let next = c.strike_given.new.candidates in
    let cell = c.loop-cell.cell in
    let puzzle = g.P.LinePass.puzzle c.args.p.now in
    let leads = c.strike_given.ensures.leads in
    let quiet : (j : ℕ) → j < cell + 1 → IsGivenQuiet puzzle j next = λ j low. elim (cases_eq j cell) [
      | inl last ↦ subst (λ (k : ℕ). IsGivenQuiet puzzle k next) (sym last) c.strike_given.ensures.quiet
      | inr other ↦ given_stays puzzle j now next (leads_size _ _ _ _ leads) (leads_fewer _ _ _ _ leads)
          (c.loop-cell.invariant.1 j (omega (arith, low, other)))
    ] in
    (leads_on _ _ _ _ _ c.loop-cell.invariant.0 leads, quiet)

pub returns-clause-settled : goal.returns-clause-settled
returns-clause-settled g c =
    let first = c.args.candidates.now in
    let last = c.loop-cell.candidates in
    let size : last.size ≡ first.size = leads_size _ _ _ _ c.loop-cell.invariant.0 in
    let width : c.get-width.result ≡ last.size = c.get-width.ensures.value ∙ c.size.ensures.value ∙ sym size in
    λ at cell value pair h.
    let low : at < last.size * last.size = subst (λ (n : ℕ). n < last.size * last.size) h.here pair.inside in
    let end : at < c.get-width.result * c.get-width.result = subst (λ (n : ℕ). at < n * n) (sym width) low in
    c.loop-cell.invariant.1 at (omega (arith, end, c.loop-cell-test.false)) cell value pair h
