use Rattle.std.proofs.Common.{◌≡◌, ℕ, ◌<◌, sym, ap, ◌∙◌, subst, arith}
use Rattle.number_sets.specs.Sets.{has_number}
use Rattle.number_sets.proofs.Members.{has_number-none}
use Rattle.latin_board.specs.Lines.{line_cell}
use Rattle.trail_solver.specs.Candidates.{IsSetOf}
use Rattle.trail_solver.proofs.StruckSets.{missing_are}
use Rattle.line_steps.specs.Inner.LineStrikes.{IsLeftByRest}
use Rattle.line_steps.specs.Takes.{Strikes, Takes}
use Rattle.line_steps.proofs.LineTallying.{square_struck}
use Rattle.line_steps.proofs.StayingLines.{changed_both}
use Rattle.line_steps.proofs.TakenLines.{changed_none}
use Rattle.line_steps.proofs.Takes.{strikes_length, takes_none, takes_length}
use Rattle.line_steps.proofs.lines.latin.LineTally.strike_along.Goals as goal

pub loop-k-init : goal.loop-k-init
loop-k-init c =
    let first = c.args.candidates.now in
    let line = c.args.squares.now.line in
    record {
      takes = takes_none (λ cell v. (j : ℕ) × (j < 0) × (cell ≡ line_cell first.size line j) × IsLeftByRest first line j v) first (λ cell v h. omega (arith, h.1));
      changed = changed_none line c.empty-places.result first (λ k. ap (λ (n : ℕ). has_number n k) c.empty-places.ensures ∙ has_number-none k);
    }

pub returns : goal.returns
returns c =
    let first = c.args.candidates.now in
    let last : c.loop-k.k ≡ first.size = omega (arith, c.loop-k-test.false, c.loop-k.auto.k-end, c.get-width.ensures.value, c.size.ensures.value) in
    record {
      takes = subst (λ (n : ℕ). Takes (λ cell v. (j : ℕ) × (j < n) × (cell ≡ line_cell first.size c.args.squares.now.line j)
          × IsLeftByRest first c.args.squares.now.line j v) first c.loop-k.candidates) last c.loop-k.invariant.takes;
      changed = c.loop-k.invariant.changed;
    }

pub take_at-more-requires-clause-left : goal.take_at-more-requires-clause-left
take_at-more-requires-clause-left c =
    missing_are c.loop-k.candidates c.cell-cell.result c.values-set.result c.kept.result c.difference-struck.result c.values-set.ensures
    c.difference-struck.ensures

pub loop-k-preserved : goal.loop-k-preserved
loop-k-preserved c =
    let first = c.args.candidates.now in
    let now = c.loop-k.candidates in
    let next = c.take_at-more.new.candidates in
    let line = c.args.squares.now.line in
    let k = c.loop-k.k in
    let set = c.values-set.result in
    let struck = c.difference-struck.result in
    let taken = c.loop-k.invariant.takes in
    let low : k < first.size = omega (arith, c.loop-k-test.true, c.get-width.ensures.value, c.size.ensures.value) in
    let here : c.cell-cell.result ≡ line_cell first.size line k = c.cell-cell.ensures.value ∙ ap (λ (n : ℕ). line_cell n line k) c.requires.size in
    let values : IsSetOf now (line_cell first.size line k) set = subst (λ (n : ℕ). IsSetOf now n set) here c.values-set.ensures in
    let strikes : Strikes now next (line_cell first.size line k) struck = subst (λ (n : ℕ). Strikes now next n struck) here c.take_at-more.ensures.strikes in
    let more = c.take_at-more.ensures.changed line (here ∙ ap (λ (n : ℕ). line_cell n line k) (sym taken.size)) in
    record {
      takes = square_struck line k set c.kept.result struck c.args.self.now first now next c.requires.line low c.requires.tally taken values c.kept.ensures
          c.difference-struck.ensures strikes;
      changed = changed_both line c.loop-k.places c.take_at-more.result c.union-places.result first now next taken.size (takes_length _ first now taken)
          (strikes_length now next _ struck strikes) c.union-places.ensures.members c.loop-k.invariant.changed more;
    }
