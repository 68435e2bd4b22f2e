-- One level after another gets the masks to which the value leads, and the last one those of the greatest.
use Rattle.std.proofs.Common.{ℕ, ◌+◌, ◌-◌, ◌<◌, [], arith}
use Rattle.std.proofs.lemmas.List.{get_or_default}
use Rattle.tower_lines.specs.Inner.Levels.{IsReachedBy}
use Rattle.tower_lines.proofs.LevelAdditions.{IsBelow, IsOnlyAt, added_none, added_both, added_as, at_level, only_level, none_below, one_more_below, all_below}
use Rattle.tower_lines.proofs.LevelSteps.{greatest_reached, only_greatest, in_reach}
use Rattle.tower_lines.proofs.levels.add_reached.Goals as goal

pub loop-level-init : goal.loop-level-init
loop-level-init g c =
    let a = c.args in
    let k = a.value - 1 in
    let Reached = IsReachedBy a.place a.width a.last k a.levels.now in
    added_none (IsBelow 1 Reached) a.next.now (none_below Reached 1 (λ level mask r. (in_reach a.place a.width a.last k a.levels.now c.requires.few level mask r).some))

pub loop-level-preserved : goal.loop-level-preserved
loop-level-preserved g c =
    let a = c.args in
    let level = c.loop-level.level in
    let Reached = IsReachedBy a.place a.width a.last (a.value - 1) a.levels.now in
    added_both (IsBelow level Reached) (IsOnlyAt level Reached) (IsBelow (level + 1) Reached) a.next.now c.loop-level.next c.add_at.new.next c.loop-level.invariant
    (at_level Reached level c.loop-level.next c.add_at.new.next c.reached.result (λ mask. c.reached.ensures a.width mask (omega arith)) c.add_at.ensures)
    (one_more_below Reached level)

pub returns-after-loop-level : goal.returns-after-loop-level
returns-after-loop-level g c =
    let a = c.args in
    let k = a.value - 1 in
    let end = c.loop-level.level in
    let Reached = IsReachedBy a.place a.width a.last k a.levels.now in
    let within : (level mask : ℕ) → Reached level mask → level < end = λ level mask r.
    let to = in_reach a.place a.width a.last k a.levels.now c.requires.few level mask r in
    let next = to.next in
    let last = to.last in
    omega arith in
    added_as (IsBelow end Reached) Reached a.next.now c.loop-level.next c.loop-level.invariant (all_below Reached end within)

pub returns-then-last-gt0 : goal.returns-then-last-gt0
returns-then-last-gt0 g c =
    let a = c.args in
    let k = a.value - 1 in
    let Reached = IsReachedBy a.place a.width a.last k a.levels.now in
    added_as (IsOnlyAt a.last Reached) Reached a.next.now c.add_at-then-last-gt0.new.next
    (at_level Reached a.last a.next.now c.add_at-then-last-gt0.new.next _
    (greatest_reached a.place a.width a.last k a.levels.now _ (omega arith) (omega arith)
    (get_or_default a.levels.now (a.last - 1) c.index-levels-last.result [] (omega arith)))
    c.add_at-then-last-gt0.ensures)
    (only_level Reached a.last (λ level mask r. (only_greatest (omega arith) r.link).after))

pub returns-else-last-gt0 : goal.returns-else-last-gt0
returns-else-last-gt0 g c =
    let a = c.args in
    let k = a.value - 1 in
    added_none (IsReachedBy a.place a.width a.last k a.levels.now) a.next.now
    (λ level mask r. let s = only_greatest (omega arith) r.link in omega (arith, s.before))
