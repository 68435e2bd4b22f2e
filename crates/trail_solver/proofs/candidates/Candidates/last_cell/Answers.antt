use Rattle.std.proofs.Common.{◌-◌, ◌*◌, ◌<◌, List, length, slice_get, sym, ap, ◌∙◌, subst, arith}
use Rattle.trail_solver.specs.declared.trail.Removal.{Removal}
use Rattle.trail_solver.specs.Candidates.{CandidatesValue}
use Rattle.trail_solver.proofs.AgreeingSets.{squares_fit}
use Rattle.trail_solver.proofs.Removals.{removal_inside}
use Rattle.trail_solver.proofs.candidates.Candidates.last_cell.Goals as goal

pub overflow_cast-cell : goal.overflow_cast-cell
overflow_cast-cell c =
    let r = c.in_ok-last.last.now in
    let k = length c.deref.result.now - 1 in
    let at = sym (c.in_ok-last.ensures.value ∙ ap (λ (xs : List Removal). slice_get xs k) c.deref.ensures.0) in
    let inside = removal_inside c.self.inside.size c.self.inside.sets c.self.inside.removals.items c.self.inside.pairs k r c.self.invariant at in
    omega (arith, inside, squares_fit c.self.inside.size c.self.invariant.agrees.largest)

pub returns : goal.returns
returns c =
    let r = c.in_ok-last.last.now in
    let k = length c.deref.result.now - 1 in
    let at = sym (c.in_ok-last.ensures.value ∙ ap (λ (xs : List Removal). slice_get xs k) c.deref.ensures.0) in
    let inside = removal_inside c.self.inside.size c.self.inside.sets c.self.inside.removals.items c.self.inside.pairs k r c.self.invariant at in
    let P : CandidatesValue → Type 0 = λ v. r.cell < v.size * v.size in
    subst P c.self.view_is inside
