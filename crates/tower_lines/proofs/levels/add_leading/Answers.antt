-- One level after another gets the masks from which the value leads on, and the one before the last those of the greatest.
use Rattle.std.proofs.Common.{ℕ, ◌+◌, ◌-◌, ◌<◌, inl, inr, [], get_or, arith}
use Rattle.std.proofs.lemmas.Bool.{cases_lt, le-ltb}
use Rattle.std.proofs.lemmas.List.{get_or_default}
use Rattle.tower_lines.specs.Inner.Levels.{IsPassing}
use Rattle.tower_lines.proofs.LevelAdditions.{IsBelow, IsOnlyAt, noted_none, noted_both, noted_as, common_at_level, only_level, none_below, one_more_below, all_below}
use Rattle.tower_lines.proofs.LevelSteps.{shared_passing, greatest_leads, only_greatest}
use Rattle.tower_lines.proofs.levels.add_leading.Goals as goal

pub returns-then-last-gt0 : goal.returns-then-last-gt0
returns-then-last-gt0 g c =
    let a = c.args in
    let k = a.value - 1 in
    let at = a.last - 1 in
    let Passing = IsPassing a.place a.width a.last k a.levels.now a.after.now in
    let set = get_or a.after.now a.last c.index-after-last.result in
    noted_as (IsOnlyAt at Passing) Passing a.before.now c.add_common.new.before c.add_common.result
    (common_at_level Passing at a.levels.now a.before.now c.add_common.new.before set c.add_common.result
    (shared_passing a.place a.width a.last k at a.levels.now a.after.now set (omega arith)
    (greatest_leads a.place a.width a.last k a.after.now set (omega arith) (omega arith)
    (get_or_default a.after.now a.last c.index-after-last.result [] (omega arith))))
    c.add_common.ensures.before c.add_common.ensures.some)
    (only_level Passing at (λ level mask p. let s = only_greatest (omega arith) p.leads.link in omega (arith, s.before)))

pub returns-else-last-gt0 : goal.returns-else-last-gt0
returns-else-last-gt0 g c =
    let a = c.args in
    let k = a.value - 1 in
    rw (le-ltb 0 a.last c.if-last-gt0.false) (noted_none (IsPassing a.place a.width a.last k a.levels.now a.after.now) a.before.now
    (λ level mask p. let s = only_greatest (omega arith) p.leads.link in omega (arith, s.before)))

pub loop-level-init : goal.loop-level-init
loop-level-init g c =
    let a = c.args in
    let Passing = IsPassing a.place a.width a.last (a.value - 1) a.levels.now a.after.now in
    noted_none (IsBelow c.min-level.result Passing) a.before.now (none_below Passing c.min-level.result (λ level mask p.
    elim (cases_lt 0 a.place) [ inl some ↦ (let least = (c.requires.few level mask p.here).least some in omega arith) | inr none ↦ omega arith ]))

pub loop-level-preserved : goal.loop-level-preserved
loop-level-preserved g c =
    let a = c.args in
    let level = c.loop-level.level in
    let set = c.leading.result in
    let Passing = IsPassing a.place a.width a.last (a.value - 1) a.levels.now a.after.now in
    noted_both (IsBelow level Passing) (IsOnlyAt level Passing) (IsBelow (level + 1) Passing) a.before.now c.loop-level.before c.add_common-some.new.before
    c.loop-level.some c.add_common-some.result c.loop-level.invariant
    (common_at_level Passing level a.levels.now c.loop-level.before c.add_common-some.new.before set c.add_common-some.result
    (shared_passing a.place a.width a.last (a.value - 1) level a.levels.now a.after.now set (omega arith) (λ mask. c.leading.ensures a.width mask (omega arith)))
    c.add_common-some.ensures.before c.add_common-some.ensures.some)
    (one_more_below Passing level)

pub returns : goal.returns
returns g c =
    let a = c.args in
    let end = c.loop-level.level in
    let Passing = IsPassing a.place a.width a.last (a.value - 1) a.levels.now a.after.now in
    let within : (level mask : ℕ) → Passing level mask → level < end = λ level mask p.
    let most = (c.requires.few level mask p.here).most in
    let low = p.low in
    omega arith in
    noted_as (IsBelow end Passing) Passing a.before.now c.loop-level.before c.loop-level.some c.loop-level.invariant (all_below Passing end within)
