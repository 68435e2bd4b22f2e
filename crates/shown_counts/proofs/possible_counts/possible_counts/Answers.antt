use Rattle.std.proofs.Common.{ℕ, ◌≡◌, ◌+◌, take, length, slice_index, sym, ◌∙◌, subst, arith}
use Rattle.std.proofs.lemmas.List.{get_or-take, length-take-le}
use Rattle.std.proofs.lemmas.Grind.{get_or_default_zero}
use Rattle.shown_counts.specs.Inner.Possible.{IsOneLonger}
use Rattle.shown_counts.proofs.PossibleCounts.{none_started, started_more, started_whole}
use Rattle.shown_counts.proofs.possible_counts.possible_counts.Goals as goal

pub loop-place-init : goal.loop-place-init
loop-place-init c = λ line count filling. none_started _ (c.one.ensures.members 0)

pub loop-place-preserved : goal.loop-place-preserved
loop-place-preserved c = λ line count filling.
    let row = c.args.row.now in
    let w = c.args.width in
    let k = c.loop-place.place in
    let inside = c.loop-place-test.true in
    let long : length (take w row) ≡ w = length-take-le w row (omega (arith, c.requires, c.type_inv.row)) in
    let at : slice_index (take w row) k ≡ c.index-row-place.result =
    get_or-take w row k 0 inside
    ∙ sym (get_or_default_zero row k c.index-row-place.result (omega (arith, inside, c.requires, c.type_inv.row)))
    ∙ sym c.index-row-place.is in
    started_more (take w row) c.loop-place.starts c.one_longer-starts.result line count k (omega (arith, long, c.requires)) (omega (arith, long, inside)) filling
    (subst (λ (set : ℕ). IsOneLonger (k + 1) set c.loop-place.starts c.one_longer-starts.result) (sym c.index-row-place.is ∙ sym at) c.one_longer-starts.ensures)
    (c.loop-place.invariant line count filling)

pub returns : goal.returns
returns c = λ line count filling.
    let row = c.args.row.now in
    let w = c.args.width in
    let long : length (take w row) ≡ w = length-take-le w row (omega (arith, c.requires, c.told-row)) in
    let end = started_whole (take w row) c.loop-place.starts line count c.loop-place.place (omega (arith, long, c.loop-place-test.false)) filling
    (c.loop-place.invariant line count filling) in
    c.union_of.ensures end.0 count end.1 end.2
