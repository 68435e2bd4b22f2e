use Rattle.std.proofs.Common.{◌≡◌, ℕ, ◌<◌, ◌≤◌, false, [], length, get_or}
use Rattle.tower_lines.specs.Inner.MaskSets.{has_at}
use Rattle.tower_lines.specs.Inner.Levels.{AreReached}
use Rattle.tower_lines.proofs.line_fillings.add_starts.Given as goal

-- the places up to this one are done, and those after it have no mask
abbrev pub invariant-loop-place : goal.invariant-loop-place
invariant-loop-place g l = record {
  long : length l.starts ≡ 10;
  reached : (p : ℕ) → p ≤ l.place → AreReached l.sets l.clue p (get_or l.starts p []);
  none : (p level mask : ℕ) → l.place < p → p < 10 → has_at (get_or l.starts p []) level mask ≡ false;
}
