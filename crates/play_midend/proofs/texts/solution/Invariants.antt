use Rattle.std.proofs.Common.{◌≡◌, ◌*◌, length, take, drop}
use Rattle.play_midend.specs.MoveTexts.{digits_at}
use Rattle.play_midend.proofs.SolutionTexts.{read_onto}
use Rattle.play_midend.proofs.texts.solution.Given as goal

abbrev pub invariant-loop-cell : goal.invariant-loop-cell
invariant-loop-cell l =
    (l.grid.size ≡ l.width) × (length l.grid.numbers ≡ length l.text) × (l.width * l.width ≡ length l.text)
    × (digits_at l.width l.text ≡ read_onto (take l.cell l.grid.numbers) (digits_at l.width (drop l.cell l.text)))
