use Rattle.std.proofs.Common.{arith}
use Rattle.std.proofs.lemmas.Bool.{false≢true}
use Rattle.board_checks.proofs.Signs.{broken_inside, greater_first_broken, greater_second_broken}
use Rattle.board_checks.proofs.unequal.breaks_sign.Goals as goal

pub returns-then-second-width : goal.returns-then-second-width
returns-then-second-width c = (
  λ e. absurd (false≢true e),
  λ h.
      let inside = broken_inside c.args.puzzle.now c.args.grid.now c.args.first c.args.second c.size-valid.ensures.valid h in
      let outside = rw (c.get-width.ensures.value, c.size.ensures.value, c.requires.size) at c.if-second-width.true in
      absurd (omega arith),
)

pub returns-then-greater : goal.returns-then-greater
returns-then-greater c =
    let inside = rw (c.get-width.ensures.value, c.size.ensures.value) at c.if-second-width.false in
    let same = greater_first_broken c.args.puzzle.now c.args.grid.now c.args.first c.args.second c.size-valid.ensures.valid c.size.ensures.valid
    c.requires.order inside (c.greater.ensures.pair.0 c.if-greater.true) in
    (λ e. same.1 (c.never_exceeds.ensures.0 e), λ s. c.never_exceeds.ensures.1 (same.0 s))

pub returns-then-greater-2 : goal.returns-then-greater-2
returns-then-greater-2 c =
    let inside = rw (c.get-width.ensures.value, c.size.ensures.value) at c.if-second-width.false in
    let same = greater_second_broken c.args.puzzle.now c.args.grid.now c.args.first c.args.second c.size-valid.ensures.valid c.size.ensures.valid
    c.requires.order inside (c.greater-2.ensures.pair.0 c.if-greater-2.true) in
    (λ e. same.1 (c.never_exceeds-then-greater-2.ensures.0 e), λ s. c.never_exceeds-then-greater-2.ensures.1 (same.0 s))
