use Rattle.std.proofs.Common.{◌-◌}
use Rattle.tower_lines.specs.Inner.Levels.{AreNoted, IsPassing}
use Rattle.tower_lines.proofs.LevelAdditions.{IsBelow}
use Rattle.tower_lines.proofs.levels.add_leading.Given as goal

abbrev pub invariant-loop-level : goal.invariant-loop-level
invariant-loop-level g l = AreNoted (IsBelow l.level (IsPassing l.place l.width l.last (l.value - 1) l.levels l.after)) l.fn.before l.before l.some
