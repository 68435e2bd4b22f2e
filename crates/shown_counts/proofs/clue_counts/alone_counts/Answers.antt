use Rattle.std.proofs.Common.{◌≡◌, ℕ, ◌+◌, true, take, slice_index, sym, ap, ◌∙◌, arith}
use Rattle.std.proofs.lemmas.Grind.{get_or_default_zero}
use Rattle.std.proofs.lemmas.List.{length-take-le}
use Rattle.number_sets.specs.Sets.{has_number}
use Rattle.shown_counts.specs.Inner.Counted.{IsFilled}
use Rattle.shown_counts.proofs.CountLemmas.{alone_supported, all_counts}
use Rattle.shown_counts.proofs.clue_counts.alone_counts.Goals as goal

pub returns : goal.returns
returns c =
    let row = c.args.row.now in
    let w = c.args.width in
    let alone = c.with_alone-alone in
    let same = c.without_lone.ensures in
    let has : has_number (slice_index row c.args.index) c.args.value ≡ true =
    ap (λ (set : ℕ). has_number set c.args.value)
    (sym (get_or_default_zero row c.args.index c.index-row-index.result (omega (arith, c.requires.index, c.requires.width, alone.ensures.before))))
    ∙ sym c.has.ensures ∙ c.if-not-has.false in
    all_counts (IsFilled (take w c.without_lone.result)) (take w row) c.args.index c.args.value (w + 1) c.filled_counts.result
    (omega (arith, length-take-le w row (omega (arith, c.requires.width, alone.ensures.before)))) c.filled_counts.ensures
    (λ count some below.
    let is = alone_supported row alone.result w c.args.index c.args.value count c.requires.width c.requires.index has alone.ensures in
    (λ f. is.0 (f.0, (same f.0 count).1 f.1), λ s. let f = is.1 s in (f.0, (same f.0 count).0 f.1)))
