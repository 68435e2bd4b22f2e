use Rattle.std.proofs.Common.{ℕ, ◌≡◌, ◌+◌, slice_index, refl, sym, ap, ◌∙◌, arith}
use Rattle.std.proofs.lemmas.Bool.{or_left, or_right}
use Rattle.std.proofs.lemmas.Grind.{get_or_default_zero}
use Rattle.number_sets.specs.Sets.{has_number}
use Rattle.shown_counts.proofs.PossibleCounts.{longer_init, longer_all, longer_more}
use Rattle.shown_counts.proofs.possible_counts.one_longer.Goals as goal

pub loop-height-init : goal.loop-height-init
loop-height-init c = longer_init c.args.low c.args.set c.args.starts.now c.union_of-lower.result _ refl c.union_of-lower.ensures

pub loop-height-preserved : goal.loop-height-preserved
loop-height-preserved c =
    let starts = c.args.starts.now in
    let n = c.loop-height.height in
    let old = c.loop-height.lower in
    let here : slice_index starts n ≡ c.index-starts-height.result =
    sym (get_or_default_zero starts n c.index-starts-height.result (omega (arith, c.loop-height-test.true, c.type_inv.starts)))
    ∙ sym c.index-starts-height.is in
    let next : slice_index starts (n + 1) ≡ c.index-starts-height-in-loop-height.result =
    sym (get_or_default_zero starts (n + 1) c.index-starts-height-in-loop-height.result (omega (arith, c.loop-height-test.true, c.type_inv.starts)))
    ∙ sym c.index-starts-height-in-loop-height.is in
    longer_more n c.args.low c.args.set old c.union-lower.result c.union.result starts c.loop-height.longer c.loop-height-test.true c.loop-height.invariant
    (λ count has. c.union-lower.ensures.members count ∙ or_left (has_number old count) _ has)
    (λ count has. c.union-lower.ensures.members count
    ∙ or_right (has_number old count) _ (ap (λ (s : ℕ). has_number s count) (sym c.index-starts-height.is ∙ sym here) ∙ has))
    (λ k count low has is. c.union.ensures.members count
    ∙ or_left (has_number c.hidden_by-hidden.result count) _
    (c.hidden_by-hidden.ensures k count low has (ap (λ (s : ℕ). has_number s count) (sym c.index-starts-height-in-loop-height.is ∙ sym next) ∙ is)))
    (λ count small has is. c.union.ensures.members (count + 1)
    ∙ or_right (has_number c.hidden_by-hidden.result (count + 1)) _ (c.seen_after.ensures count small has is))

pub returns : goal.returns
returns c = longer_all c.loop-height.height c.args.low c.args.set c.loop-height.lower c.args.starts.now c.loop-height.longer c.loop-height-test.false c.loop-height.invariant
