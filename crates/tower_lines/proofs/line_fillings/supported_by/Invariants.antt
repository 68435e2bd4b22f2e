use Rattle.std.proofs.Common.{◌≡◌, ℕ, ◌≤◌, ◌↔◌, true, length, get_or}
use Rattle.number_sets.specs.Sets.{has_number}
use Rattle.tower_lines.specs.LineFillings.{IsSupported}
use Rattle.tower_lines.specs.Inner.Levels.{AreContinued}
use Rattle.tower_lines.proofs.line_fillings.supported_by.Given as goal

-- all places from this one on are done
abbrev pub invariant-loop-place : goal.invariant-loop-place
invariant-loop-place g l = record {
  long : length l.kept ≡ 9;
  inside : l.place ≤ length l.sets;
  continued : AreContinued l.sets l.clue l.place l.after;
  done : (place value : ℕ) → l.place ≤ place → (has_number (get_or l.kept place 0) value ≡ true) ↔ IsSupported l.sets l.clue place value;
}
