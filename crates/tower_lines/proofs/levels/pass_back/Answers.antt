-- One value after another gives the masks from which it leads on, and is kept where there are any.
use Rattle.std.proofs.Common.{◌≡◌, ℕ, ◌+◌, not, ◌&&◌, ◌||◌, leb, sym, ap, ◌∙◌, subst}
use Rattle.std.proofs.lemmas.Bool.{both_ways}
use Rattle.number_sets.specs.Sets.{has_number}
use Rattle.tower_lines.specs.Inner.Levels.{IsPassing, IsPassed}
use Rattle.tower_lines.proofs.LevelAdditions.{added_as, added_alone}
use Rattle.tower_lines.proofs.LevelValues.{AreOthers, AreGiving, others_less, all_left, fewer_left, given_none, given_more, giving_none, giving_more, giving_skipped}
use Rattle.tower_lines.proofs.levels.pass_back.Goals as goal
use Rattle.tower_lines.proofs.levels.pass_back.Goals.{then-add_leading, else-add_leading}

pub loop-value-init : goal.loop-value-init
loop-value-init g c =
    let left = c.intersection-left.result in
    let Passing : ℕ → ℕ → ℕ → Type 0 = λ k level mask. IsPassing c.args.place c.args.width c.args.clue k c.args.levels.now c.args.after.now level mask in
    let is : (n : ℕ) → has_number left n ≡ (has_number c.args.values n && (leb 1 n && leb n c.args.width)) =
    λ n. c.intersection-left.ensures.members n ∙ ap (λ b. has_number c.args.values n && b) (c.up_to.ensures.members n) in
    record {
      left = all_left c.args.width c.args.values left is;
      added = given_none Passing c.args.width c.args.values left c.no_levels-before.result is;
      kept = giving_none Passing c.args.width c.args.values left c.empty-kept.result c.empty-kept.ensures is;
    }

pub loop-value-smaller : goal.loop-value-smaller
loop-value-smaller g c =
    others_less c.loop-value.left c.in-Some.value c.difference-left.result c.in-Some.ensures.value.has
    (λ n. c.difference-left.ensures n ∙ ap (λ b. has_number c.loop-value.left n && not b) (c.one-in-Some.ensures.members n))

pub loop-value-preserved : goal.loop-value-preserved
loop-value-preserved g c =
    let width = c.args.width in
    let values = c.args.values in
    let left = c.loop-value.left in
    let value = c.in-Some.value in
    let others = c.difference-left.result in
    let kept = c.loop-value.kept in
    let Passing : ℕ → ℕ → ℕ → Type 0 = λ k level mask. IsPassing c.args.place width c.args.clue k c.args.levels.now c.args.after.now level mask in
    let are : AreOthers left value others = λ n. c.difference-left.ensures n ∙ ap (λ b. has_number left n && not b) (c.one-in-Some.ensures.members n) in
    let here = c.in-Some.ensures.value.has in
    let inside = c.loop-value.invariant.left in
    let P : ℕ → Type 0 = λ more. AreGiving Passing width values others more in
    record {
      left = fewer_left width values left value others inside are;
      added = given_more Passing width values left value others c.no_levels-before.result c.loop-value.before c.add_leading.new.before inside here are
          c.loop-value.invariant.added c.add_leading.ensures.added;
      kept = elim c.if-add_leading.branch [
        | then-add_leading w ↦ subst P (sym w.kept-is) (giving_more Passing width values left value others kept w.union-kept.result inside here are
            (c.add_leading.ensures.some.0 w.if-add_leading.true)
            (λ n. w.union-kept.ensures.members n ∙ ap (λ b. has_number kept n || b) (w.one.ensures.members n)) c.loop-value.invariant.kept)
        | else-add_leading w ↦ subst P (sym w.kept-is) (giving_skipped Passing width values left value others kept inside here are
            (λ r. both_ways c.add_leading.result w.if-add_leading.false (c.add_leading.ensures.some.1 r)) c.loop-value.invariant.kept)
      ];
    }

pub returns-clause-before : goal.returns-clause-before
returns-clause-before g c =
    let Passed = IsPassed c.args.place c.args.width c.args.clue c.args.values c.args.levels.now c.args.after.now in
    added_alone Passed c.no_levels-before.result c.loop-value.before c.no_levels-before.ensures
    (added_as _ Passed c.no_levels-before.result c.loop-value.before c.loop-value.invariant.added
    (λ level mask. (
      λ r. record { k = r.k; done = record { inside = r.inside; candidate = r.candidate; done = c.in_default.ensures.value (r.k + 1) }; holds = r.passing },
      λ r. record { k = r.k; inside = r.done.inside; candidate = r.done.candidate; passing = r.holds },
    )))

pub returns-clause-kept : goal.returns-clause-kept
returns-clause-kept g c = λ value. (
  λ e.
      let r = (c.loop-value.invariant.kept value).0 e in
      let by = r.holds in
      record { k = r.k; is = by.is; inside = r.done.inside; candidate = r.done.candidate; level = by.level; mask = by.mask; passing = by.given },
  λ r. (c.loop-value.invariant.kept value).1 record {
    k = r.k;
    done = record { inside = r.inside; candidate = r.candidate; done = c.in_default.ensures.value (r.k + 1) };
    holds = record { is = r.is; level = r.level; mask = r.mask; given = r.passing };
  },
)
