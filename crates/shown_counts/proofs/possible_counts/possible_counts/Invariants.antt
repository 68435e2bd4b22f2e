use Rattle.std.proofs.Common.{ℕ, List, take}
use Rattle.tower_lines.specs.LineFillings.{IsFilling}
use Rattle.shown_counts.proofs.PossibleCounts.{HasStart}
use Rattle.shown_counts.proofs.possible_counts.possible_counts.Given as goal

abbrev pub invariant-loop-place : goal.invariant-loop-place
invariant-loop-place l = (line : List ℕ) (count : ℕ) → IsFilling (take l.width l.row) count line → HasStart l.starts (take l.place line)
