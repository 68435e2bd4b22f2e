use Rattle.std.proofs.Common.{◌≡◌, ◌≤◌, take}
use Rattle.tower_lines.specs.TowersSeen.{seen}
use Rattle.tower_lines.proofs.SeenLemmas.{IsLeastSeen}
use Rattle.tower_lines.proofs.towers_seen.seen.Given as goal

abbrev pub invariant-loop-height : goal.invariant-loop-height
invariant-loop-height l = record {
  counted : l.count ≡ seen (take l.height-index l.line);
  few : l.count ≤ l.height-index;
  low : l.least_seen ≤ 256;
  least : IsLeastSeen (take l.height-index l.line) l.least_seen;
}
