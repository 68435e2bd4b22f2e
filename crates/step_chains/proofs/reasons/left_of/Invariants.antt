use Rattle.std.proofs.Common.{◌≡◌, ◌↔◌, ℕ, ◌<◌, true}
use Rattle.number_sets.specs.Sets.{has_number}
use Rattle.latin_board.specs.Lines.{line_cell}
use Rattle.line_steps.specs.Left.{IsLeft}
use Rattle.step_chains.proofs.reasons.left_of.Given as goal

abbrev pub invariant-loop-k : goal.invariant-loop-k
invariant-loop-k l = (v : ℕ) → (has_number l.found v ≡ true)
    ↔ ((k : ℕ) × (k < l.k) × ((has_number l.squares k ≡ true) × IsLeft l.candidates (line_cell l.candidates.size l.line k) v))
