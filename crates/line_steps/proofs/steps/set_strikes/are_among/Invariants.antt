use Rattle.std.proofs.Common.{◌≡◌, ℕ, ◌<◌, true}
use Rattle.number_sets.specs.Sets.{has_number}
use Rattle.latin_board.specs.Lines.{line_cell}
use Rattle.line_steps.specs.Left.{IsLeft}
use Rattle.line_steps.proofs.steps.set_strikes.are_among.Given as goal

abbrev pub invariant-loop-k : goal.invariant-loop-k
invariant-loop-k l =
    (j v : ℕ) → j < l.k → has_number l.squares j ≡ true → IsLeft l.candidates (line_cell l.candidates.size l.line j) v → has_number l.values v ≡ true
