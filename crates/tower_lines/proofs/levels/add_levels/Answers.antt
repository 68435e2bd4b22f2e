-- One value after another gives the masks to which it leads.
use Rattle.std.proofs.Common.{◌≡◌, ℕ, ◌+◌, not, ◌&&◌, leb, ap, ◌∙◌}
use Rattle.number_sets.specs.Sets.{has_number}
use Rattle.tower_lines.specs.Inner.Levels.{IsReachedBy, IsReachedFrom}
use Rattle.tower_lines.proofs.LevelAdditions.{added_as}
use Rattle.tower_lines.proofs.LevelValues.{AreOthers, others_less, all_left, fewer_left, given_none, given_more}
use Rattle.tower_lines.proofs.levels.add_levels.Goals as goal

pub loop-value-init : goal.loop-value-init
loop-value-init g c =
    let left = c.intersection-left.result in
    let is : (n : ℕ) → has_number left n ≡ (has_number c.args.values n && (leb 1 n && leb n c.args.width)) =
    λ n. c.intersection-left.ensures.members n ∙ ap (λ b. has_number c.args.values n && b) (c.up_to.ensures.members n) in
    record {
      left = all_left c.args.width c.args.values left is;
      added = given_none (λ k level mask. IsReachedBy c.args.place c.args.width c.args.clue k c.args.levels.now level mask) c.args.width c.args.values left c.args.next.now is;
    }

pub loop-value-smaller : goal.loop-value-smaller
loop-value-smaller g c =
    others_less c.loop-value.left c.in-Some.value c.difference-left.result c.in-Some.ensures.value.has
    (λ n. c.difference-left.ensures n ∙ ap (λ b. has_number c.loop-value.left n && not b) (c.one.ensures.members n))

pub loop-value-preserved : goal.loop-value-preserved
loop-value-preserved g c =
    let left = c.loop-value.left in
    let value = c.in-Some.value in
    let others = c.difference-left.result in
    let are : AreOthers left value others = λ n. c.difference-left.ensures n ∙ ap (λ b. has_number left n && not b) (c.one.ensures.members n) in
    let here = c.in-Some.ensures.value.has in
    record {
      left = fewer_left c.args.width c.args.values left value others c.loop-value.invariant.left are;
      added = given_more (λ k level mask. IsReachedBy c.args.place c.args.width c.args.clue k c.args.levels.now level mask) c.args.width c.args.values left value others
          c.args.next.now c.loop-value.next c.add_reached.new.next c.loop-value.invariant.left here are c.loop-value.invariant.added c.add_reached.ensures;
    }

pub returns : goal.returns
returns g c =
    added_as _ (IsReachedFrom c.args.place c.args.width c.args.clue c.args.values c.args.levels.now) c.args.next.now c.loop-value.next c.loop-value.invariant.added
    (λ level mask. (
      λ r. record { k = r.k; done = record { inside = r.inside; candidate = r.candidate; done = c.in_default.ensures.value (r.k + 1) }; holds = r.reached },
      λ r. record { k = r.k; inside = r.done.inside; candidate = r.done.candidate; reached = r.holds },
    ))
