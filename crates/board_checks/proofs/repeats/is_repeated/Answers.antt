use Rattle.std.proofs.Common.{◌<◌, inl, inr, arith}
use Rattle.std.proofs.lemmas.Bool.{both_ways}
use Rattle.latin_board.specs.Squares.{number_at}
use Rattle.board_checks.proofs.RepeatedNumbers.{repeated_by_lines}
use Rattle.board_checks.proofs.repeats.is_repeated.Goals as goal

pub returns-then-is_elsewhere : goal.returns-then-is_elsewhere
returns-then-is_elsewhere c =
    let told = rw (c.get-width.ensures.value, c.size.ensures.value) at c.is_elsewhere.ensures in
    let lines = repeated_by_lines c.args.grid.now c.args.cell c.requires in
    let some : 0 < number_at c.args.grid.now c.args.cell = omega (arith, c.get.ensures.value, c.if-get-eq0.false) in
    (λ e. lines.1 (some, inl (told.0 e)), λ r. c.if-is_elsewhere.true)

pub returns-else-is_elsewhere : goal.returns-else-is_elsewhere
returns-else-is_elsewhere c =
    let along = rw (c.get-width.ensures.value, c.size.ensures.value) at c.is_elsewhere.ensures in
    let down = rw (c.get-width.ensures.value, c.size.ensures.value) at c.is_elsewhere-else-is_elsewhere.ensures in
    let lines = repeated_by_lines c.args.grid.now c.args.cell c.requires in
    let some : 0 < number_at c.args.grid.now c.args.cell = omega (arith, c.get.ensures.value, c.if-get-eq0.false) in (
      λ e. lines.1 (some, inr (down.0 e)),
      λ r. elim (lines.0 r).1 [
        | inl row ↦ absurd (both_ways c.is_elsewhere.result c.if-is_elsewhere.false (along.1 row))
        | inr column ↦ down.1 column
      ],
    )
