-- The least value leads from the masks of its level that lack it, or as the first one to those of the next level; another from all masks at
-- the last level, and before it from those that hide it and to those of the next level that show it.
use Rattle.std.proofs.Common.{◌≡◌, ℕ, ◌+◌, ◌-◌, inr, [], get_or, ap, ◌∙◌, arith}
use Rattle.std.proofs.lemmas.List.{get_or_default}
use Rattle.tower_lines.proofs.LevelSteps.{least_leads, least_first_leads, linked_none, least_first_late, between_leads_last, between_leads, between_leads_hidden}
use Rattle.tower_lines.proofs.levels.leading.Goals as goal

pub returns-then-place-gt0 : goal.returns-then-place-gt0
returns-then-place-gt0 g c =
    let a = c.args in
    rw c.if-value-eq1.true (least_leads a.place a.last c.count_without_least.result a.level a.after.now c.counted.result (omega arith)
    c.counted.ensures c.count_without_least.ensures.count)

pub returns-then-level-last : goal.returns-then-level-last
returns-then-level-last g c =
    let a = c.args in
    rw c.if-value-eq1.true (least_first_leads a.place a.last a.level a.after.now _ (omega arith) (omega arith)
    (get_or_default a.after.now (a.level + 1) c.index-after-level.result [] (omega arith)))

pub returns-else-level-last : goal.returns-else-level-last
returns-else-level-last g c =
    let a = c.args in
    rw c.if-value-eq1.true (λ width mask more. linked_none _ a.after.now c.none.result mask (c.none.ensures mask)
    (λ l x. least_first_late more (omega arith) (inr (omega arith))))

pub returns-then-level-last-2 : goal.returns-then-level-last-2
returns-then-level-last-2 g c = λ width mask less.
    let a = c.args in
    let after = a.after.now in
    let next : a.value - 2 + 1 ≡ a.value - 1 = omega arith in
    let from = get_or_default after a.level c.index-after-level-then-level-last-2.result [] (omega arith) ∙ ap (λ (i : ℕ). get_or after i []) c.if-level-last-2.true in
    rw c.if-level-last-2.true (rw next at (between_leads_last a.last (a.value - 2) after _ c.without.result from c.without.ensures a.place width mask (omega arith)))

pub returns-then-level-last-3 : goal.returns-then-level-last-3
returns-then-level-last-3 g c = λ width mask less.
    let a = c.args in
    let after = a.after.now in
    let next : a.value - 2 + 1 ≡ a.value - 1 = omega arith in
    rw next at (between_leads a.last (a.value - 2) a.level after _ _ c.hiding-hidden.result c.showing.result c.union.result c.without-then-level-last-3.result c.if-level-last-3.true
    (get_or_default after a.level c.index-after-level-2.result [] (omega arith))
    (get_or_default after (a.level + 1) c.index-after-level-then-level-last-3.result [] (omega arith))
    c.hiding-hidden.ensures c.showing.ensures c.union.ensures c.without-then-level-last-3.ensures a.place width mask (omega arith))

pub returns-else-level-last-3 : goal.returns-else-level-last-3
returns-else-level-last-3 g c = λ width mask less.
    let a = c.args in
    let after = a.after.now in
    let next : a.value - 2 + 1 ≡ a.value - 1 = omega arith in
    rw next at (between_leads_hidden a.last (a.value - 2) a.level after _ c.hiding-hidden.result c.without-else-level-last-3.result (omega arith) c.if-level-last-3.false
    (get_or_default after a.level c.index-after-level-2.result [] (omega arith))
    c.hiding-hidden.ensures c.without-else-level-last-3.ensures a.place width mask (omega arith))
