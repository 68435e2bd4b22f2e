use Rattle.std.proofs.Common.{◌≡◌, ◌*◌, arith}
use Rattle.line_steps.proofs.FilledLemmas.{filled_none, filled_more}
use Rattle.towers_game.proofs.TowersTables.{full_kept}
use Rattle.towers_game.proofs.towers.rules.TowersRules.full.Goals as goal

pub loop-place-init : goal.loop-place-init
loop-place-init c = filled_none _ _ _

pub loop-place-preserved : goal.loop-place-preserved
loop-place-preserved c =
    filled_more _ _ _ c.loop-place.place c.loop-place.clues c.seen_from.result (omega arith) c.seen_from.ensures.value
    c.loop-place.invariant

pub invariant_of-result : goal.invariant_of-result
invariant_of-result c =
    let all : c.loop-place.place ≡ 4 * c.args.grid.now.size = omega arith in
    full_kept c.args.grid.now c.loop-place.clues c.size.ensures.valid (rw all at c.loop-place.invariant)
