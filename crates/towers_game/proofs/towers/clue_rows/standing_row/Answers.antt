use Rattle.std.proofs.Common.{ℕ, ◌≡◌, subst, arith}
use Rattle.std.proofs.lemmas.Grind.{get_or_default_zero}
use Rattle.line_steps.specs.Inner.LineSets.{IsStandingSet}
use Rattle.towers_game.specs.Inner.RowSets.{AreStandingSets}
use Rattle.towers_game.proofs.StandingSets.{standing_next}
use Rattle.towers_game.proofs.towers.clue_rows.standing_row.Goals as goal

pub loop-k-preserved : goal.loop-k-preserved
loop-k-preserved c =
    let all = c.args.all in
    let left = c.args.left.now in
    let k = c.loop-k.k in
    let set = c.standing_set.result in
    let own = get_or_default_zero left k c.index-left-k.result (omega (arith, c.told-left, c.loop-k-test.true)) in
    standing_next all k set left c.loop-k.row c.loop-k-test.true (subst (λ (n : ℕ). IsStandingSet all n set) own c.standing_set.ensures) c.loop-k.invariant

pub returns : goal.returns
returns c =
    let last : c.loop-k.k ≡ 9 = omega (arith, c.loop-k-test.false, c.loop-k.auto.k-end) in
    subst (λ (n : ℕ). AreStandingSets c.args.all c.args.left.now n c.loop-k.row) last c.loop-k.invariant
