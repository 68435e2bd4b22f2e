use Rattle.std.proofs.Common.{◌≡◌, ◌+◌, ℕ, List, length, take, sym, ap, ◌∙◌, subst, arith}
use Rattle.std.proofs.lemmas.List.{length-set, length-take}
use Rattle.shown_counts.specs.Inner.Counted.{AreCountsBelow}
use Rattle.shown_counts.proofs.CountLemmas.{counted_more, counted_on, all_counted}
use Rattle.shown_counts.proofs.clue_counts.ClueCounts.shows_at.Goals as goal
use Rattle.shown_counts.proofs.clue_counts.ClueCounts.shows_at.Goals.{then-has, else-has}

pub loop-value-preserved : goal.loop-value-preserved
loop-value-preserved c =
    let sets = take c.args.self.now.size c.args.self.now.row in
    let shows = c.loop-value.shows in
    let n = c.loop-value.value in
    let Goes : List ℕ → Type 0 = λ xs. (length xs ≡ 10) × AreCountsBelow sets c.args.index c.args.values (n + 1) xs in
    let before = c.loop-value.invariant in
    elim c.if-has.branch [
      | then-has w ↦ subst Goes (sym w.shows-is) (
        length-set shows n w.counts.result ∙ before.0,
        counted_more sets c.args.index c.args.values n w.counts.result shows (omega (arith, before.0, c.loop-value-test.true)) before.1 w.counts.ensures,
      )
      | else-has w ↦ subst Goes (sym w.shows-is) (before.0, counted_on sets c.args.index c.args.values n shows (sym c.has.ensures ∙ w.if-has.false) before.1)
    ]

pub returns : goal.returns
returns c =
    let row = c.args.self.now.row in
    let w = c.args.self.now.size in
    let same : c.self.inside.size ≡ w = ap (λ k. k.size) c.self.view_is in
    all_counted (take w row) c.args.index c.args.values c.loop-value.value c.loop-value.shows
    (omega (arith, length-take w row, same, c.get-size.ensures.value, c.get-size.ensures.largest, c.loop-value-test.false))
    (omega (arith, c.loop-value.invariant.0, c.loop-value-test.false)) c.loop-value.invariant.1
