use Rattle.std.proofs.Common.{◌≡◌, ◌≤◌, length, take}
use Rattle.trail_solver.proofs.candidates.Candidates.give_back.Given as goal

abbrev pub invariant-loop-mark : goal.invariant-loop-mark
invariant-loop-mark l =
    (l.self.size ≡ l.initial.self.size) × (l.self.trail ≡ take (length l.self.trail) l.initial.self.trail) × (l.mark ≤ length l.self.trail)

abbrev pub decreases-loop-mark : goal.decreases-loop-mark
decreases-loop-mark l = length l.self.trail
