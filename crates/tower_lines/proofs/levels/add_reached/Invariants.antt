use Rattle.std.proofs.Common.{◌-◌}
use Rattle.tower_lines.specs.Inner.Levels.{AreAdded, IsReachedBy}
use Rattle.tower_lines.proofs.LevelAdditions.{IsBelow}
use Rattle.tower_lines.proofs.levels.add_reached.Given as goal

abbrev pub invariant-loop-level : goal.invariant-loop-level
invariant-loop-level g l = AreAdded (IsBelow l.level (IsReachedBy l.place l.width l.last (l.value - 1) l.levels)) l.fn.next l.next
