use Rattle.std.proofs.Common.{ℕ, ◌∙◌, subst, arith}
use Rattle.std.proofs.lemmas.Grind.{get_or_default_zero}
use Rattle.std.proofs.lemmas.List.{length-set}
use Rattle.towers_game.specs.Inner.RowCache.{IsReducedSet, IsWithout}
use Rattle.towers_game.proofs.ReducedRows.{reduced_set}
use Rattle.line_steps.proofs.FilledLemmas.{row_next}
use Rattle.towers_game.proofs.towers.row_cache.reduced.Goals as goal

pub loop-k-preserved : goal.loop-k-preserved
loop-k-preserved c =
    let sets = c.args.sets.now in
    let k = c.loop-k.k in
    let lone = c.lone_numbers-lone.result in
    let rest = c.without.result in
    let own = get_or_default_zero sets k c.index-sets-k.result (omega (arith, c.told-sets, c.loop-k-test.true)) in
    let here = reduced_set 9 sets k lone rest c.lone_numbers-lone.ensures (subst (λ (set : ℕ). IsWithout set lone rest) own c.without.ensures) in
    record {
      count = length-set c.loop-k.row k rest ∙ c.loop-k.invariant.count;
      each = row_next (IsReducedSet 9 sets) c.loop-k.row k rest c.loop-k.invariant.count c.loop-k-test.true here c.loop-k.invariant.each;
    }
