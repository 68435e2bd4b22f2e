use Rattle.std.proofs.Common.{◌*◌, ◌≤◌, subst}
use Rattle.trail_solver.specs.Candidates.{CandidatesValue}
use Rattle.trail_solver.proofs.Removals.{fields_bound}
use Rattle.trail_solver.proofs.candidates.Candidates.trail_len.Goals as goal

pub returns-clause-bound : goal.returns-clause-bound
returns-clause-bound c =
    let P : CandidatesValue → Type 0 = λ v. c.self.inside.pairs ≤ v.size * v.size * v.size in
    subst P c.self.view_is (fields_bound c.self.inside.size c.self.inside.sets c.self.inside.removals.items c.self.inside.pairs c.self.invariant)
