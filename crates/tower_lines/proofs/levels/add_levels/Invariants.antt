use Rattle.tower_lines.specs.Inner.Levels.{AreAdded, IsReachedBy}
use Rattle.tower_lines.proofs.LevelValues.{AreLeft, IsGiven}
use Rattle.tower_lines.proofs.levels.add_levels.Given as goal

abbrev pub invariant-loop-value : goal.invariant-loop-value
invariant-loop-value g l = record {
  left : AreLeft l.width l.fn.values l.left;
  added : AreAdded (IsGiven (λ k level mask. IsReachedBy l.place l.width l.clue k l.levels level mask) l.width l.fn.values l.left) l.fn.next l.next;
}

abbrev pub decreases-loop-value : goal.decreases-loop-value
decreases-loop-value g l = l.left
