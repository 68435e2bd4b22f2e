-- The least value comes to the masks of its level that lack it, or as the first one to those of the level before; another at the last level
-- to all masks, and before it to those that hide it and those of the level before that don't.
use Rattle.std.proofs.Common.{◌≡◌, ℕ, ◌+◌, ◌-◌, inl, [], get_or, ap, ◌∙◌, arith}
use Rattle.std.proofs.lemmas.List.{get_or_default}
use Rattle.tower_lines.proofs.LevelSteps.{least_reached, least_first_reached, linked_none, least_first_late, between_reached_last, between_reached}
use Rattle.tower_lines.proofs.levels.reached.Goals as goal

pub returns-then-place-gt0 : goal.returns-then-place-gt0
returns-then-place-gt0 g c =
    let a = c.args in
    rw c.if-value-eq1.true (least_reached a.place a.last c.count_without_least.result a.level a.levels.now c.counted.result (omega arith)
    c.counted.ensures c.count_without_least.ensures.count)

pub returns-then-level-last : goal.returns-then-level-last
returns-then-level-last g c =
    let a = c.args in
    rw c.if-value-eq1.true (least_first_reached a.place a.last a.level a.levels.now _ (omega arith) (omega arith) (omega arith)
    (get_or_default a.levels.now (a.level - 1) c.index-levels-level.result [] (omega arith)))

pub returns-else-level-last : goal.returns-else-level-last
returns-else-level-last g c =
    let a = c.args in
    rw c.if-value-eq1.true (λ width mask more. linked_none _ a.levels.now c.none.result mask (c.none.ensures mask)
    (λ l x. least_first_late more (omega arith) (inl (omega arith))))

pub returns-then-level-last-2 : goal.returns-then-level-last-2
returns-then-level-last-2 g c = λ width mask less.
    let a = c.args in
    let levels = a.levels.now in
    let next : a.value - 2 + 1 ≡ a.value - 1 = omega arith in
    let from = get_or_default levels a.level c.index-levels-level-then-level-last-2.result [] (omega arith) ∙ ap (λ (i : ℕ). get_or levels i []) c.if-level-last-2.true in
    rw c.if-level-last-2.true (rw next at (between_reached_last a.last (a.value - 2) levels _ c.with.result from c.with.ensures a.place width mask (omega arith)))

pub returns : goal.returns
returns g c = λ width mask less.
    let a = c.args in
    let levels = a.levels.now in
    let next : a.value - 2 + 1 ≡ a.value - 1 = omega arith in
    rw next at (between_reached a.last (a.value - 2) a.level levels _ _ c.from-hiding.result c.below.result c.union.result c.with-2.result c.requires.first (omega arith)
    (get_or_default levels a.level c.index-levels-level-2.result [] (omega arith))
    (get_or_default levels (a.level - 1) c.index-levels-level-3.result [] (omega arith))
    c.from-hiding.ensures c.below.ensures c.union.ensures c.with-2.ensures a.place width mask (omega arith))
