use Rattle.std.proofs.Common.{take}
use Rattle.tower_lines.proofs.CheckLemmas.{IsUsedStart}
use Rattle.tower_lines.proofs.line_checks.is_start.Given as goal

abbrev pub invariant-loop-place : goal.invariant-loop-place
invariant-loop-place l = IsUsedStart l.sets (take l.place l.line) l.used
