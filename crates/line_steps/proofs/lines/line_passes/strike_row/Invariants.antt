use Rattle.std.proofs.Common.{◌≡◌, ℕ, ◌<◌, true, slice_index}
use Rattle.number_sets.specs.Sets.{has_number}
use Rattle.latin_board.specs.Lines.{line_cell}
use Rattle.line_steps.specs.Takes.{Takes, AreChanged}
use Rattle.line_steps.proofs.lines.line_passes.strike_row.Given as goal

abbrev pub invariant-loop-k : goal.invariant-loop-k
invariant-loop-k l =
    Takes (λ cell v. (j : ℕ) × (j < l.k) × (cell ≡ line_cell l.fn.candidates.size l.line j) × (has_number (slice_index l.row j) v ≡ true)) l.fn.candidates l.candidates
    × AreChanged l.line l.changed l.fn.candidates l.candidates
