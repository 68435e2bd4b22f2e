use Rattle.std.proofs.Common.{◌≡◌, ℕ, true, true≢false, Some, refl, sym, ◌∙◌, subst}
use Rattle.std.specs.Prelude.{◌-◌, length, slice_get}
use Rattle.step_texts.specs.DeadEnds.{HasNoSquare, IsLastPlace}
use Rattle.step_texts.proofs.DeadEnds.{none_taken, same_place}
use Rattle.step_texts.proofs.dead_ends.dead_end.Goals as goal

pub returns-then-has_no_square : goal.returns-then-has_no_square
returns-then-has_no_square c =
    let line = c.in-Place.line in
    let value = c.in-Place.value in
    let last : IsLastPlace c.args.steps.now line value =
    (c.in-Some.last.now, c.in-Place.index, cc (c.in-Some.is, c.in-Some.ensures.value, c.last.ensures.value), c.in-Place.is) in (
      last,
      (none_taken c.args.view.now c.copied-left.result c.take_all.new.candidates c.args.steps.now line value c.copied-left.ensures
          c.take_all.ensures.size c.take_all.ensures.alike).0
          (c.has_no_square.ensures.0 c.if-has_no_square.true),
    )

pub returns-else-has_no_square : goal.returns-else-has_no_square
returns-else-has_no_square c =
    let here : IsLastPlace c.args.steps.now c.in-Place.line c.in-Place.value =
    (c.in-Some.last.now, c.in-Place.index, cc (c.in-Some.is, c.in-Some.ensures.value, c.last.ensures.value), c.in-Place.is) in (
      refl,
      λ line value last none.
          let same = same_place c.args.steps.now line value c.in-Place.line c.in-Place.value last here in
          let taken = (none_taken c.args.view.now c.copied-left.result c.take_all.new.candidates c.args.steps.now line value
          c.copied-left.ensures c.take_all.ensures.size c.take_all.ensures.alike).1 none in
          let left = subst (λ (l : ℕ). HasNoSquare c.take_all.new.candidates l c.in-Place.value) same.0
          (subst (λ (v : ℕ). HasNoSquare c.take_all.new.candidates line v) same.1 taken) in
          true≢false (sym (c.has_no_square.ensures.1 left) ∙ c.if-has_no_square.false),
    )
