use Rattle.std.proofs.Common.{arith}
use Rattle.board_checks.proofs.Clues.{clue_told}
use Rattle.board_checks.proofs.towers.breaks_clue.Goals as goal

pub returns-then-clue-ne0 : goal.returns-then-clue-ne0
returns-then-clue-ne0 c =
    let told = rw (c.clue-clue.ensures.value, c.get-width.ensures.value, c.size.ensures.value) at c.has_filling.ensures in
    clue_told c.args.puzzle.now c.args.grid.now c.args.place c.line_sets.result c.has_filling.result c.requires.size
    c.size.ensures.valid.largest c.line_sets.ensures (omega (arith, c.clue-clue.ensures.value, c.if-clue-ne0.true)) told
