use Rattle.std.proofs.Common.{length}
use Rattle.step_texts.proofs.Grouped.{AreSoFar}
use Rattle.step_texts.proofs.groups.told_groups.Given as goal

abbrev pub invariant-loop-rest : goal.invariant-loop-rest
invariant-loop-rest g l = AreSoFar l.told l.rest l.groups.items

abbrev pub decreases-loop-rest : goal.decreases-loop-rest
decreases-loop-rest g l = length l.rest
