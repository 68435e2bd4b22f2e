use Rattle.std.proofs.Common.{ℕ, ◌<◌, ◌∙◌, slice_index, subst, arith}
use Rattle.std.proofs.lemmas.Grind.{get_or_default_zero}
use Rattle.std.proofs.lemmas.List.{length-set}
use Rattle.line_steps.proofs.FilledLemmas.{row_next}
use Rattle.shown_counts.specs.Inner.Lone.{IsWithout}
use Rattle.shown_counts.proofs.LoneNumbers.{same_fillings}
use Rattle.shown_counts.proofs.lone_numbers.without_lone.Goals as goal

pub loop-k-preserved : goal.loop-k-preserved
loop-k-preserved c =
    let row = c.args.row.now in
    let k = c.loop-k.k in
    let lone = c.lone_numbers-lone.result in
    let rest = c.without.result in
    let inside : k < 9 = omega (arith, c.loop-k-test.true, c.requires) in
    let own = get_or_default_zero row k c.index-row-k.result (omega (arith, c.told-row, inside)) in (
      length-set c.loop-k.rest k rest ∙ c.loop-k.invariant.0,
      row_next (λ (j set : ℕ). IsWithout (slice_index row j) lone set) c.loop-k.rest k rest c.loop-k.invariant.0 inside
          (subst (λ (set : ℕ). IsWithout set lone rest) own c.without.ensures) c.loop-k.invariant.1,
    )

pub returns : goal.returns
returns c = λ line count.
    let w = c.args.width in
    same_fillings w c.args.row.now c.loop-k.rest c.lone_numbers-lone.result count line
    (omega (arith, c.told-row, c.requires)) (omega (arith, c.loop-k.invariant.0, c.requires))
    c.lone_numbers-lone.ensures (λ k low. c.loop-k.invariant.1 k (omega (arith, low, c.loop-k-test.false)))
