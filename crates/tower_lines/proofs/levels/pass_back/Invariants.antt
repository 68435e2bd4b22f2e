use Rattle.tower_lines.specs.Inner.Levels.{AreAdded, IsPassing}
use Rattle.tower_lines.proofs.LevelValues.{AreLeft, IsGiven, AreGiving}
use Rattle.tower_lines.proofs.levels.pass_back.Given as goal

abbrev pub invariant-loop-value : goal.invariant-loop-value
invariant-loop-value g l = record {
  left : AreLeft l.width l.fn.values l.left;
  added : AreAdded (IsGiven (λ k level mask. IsPassing l.place l.width l.clue k l.levels l.after level mask) l.width l.fn.values l.left) l.initial.before l.before;
  kept : AreGiving (λ k level mask. IsPassing l.place l.width l.clue k l.levels l.after level mask) l.width l.fn.values l.left l.kept;
}

abbrev pub decreases-loop-value : goal.decreases-loop-value
decreases-loop-value g l = l.left
