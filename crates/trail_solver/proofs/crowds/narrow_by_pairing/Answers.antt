use Rattle.std.proofs.Common.{Bool, true, subst}
use Rattle.trail_solver.specs.Inner.Pairings.{NarrowsLatin}
use Rattle.trail_solver.proofs.CrowdSteps.{covers_later, narrows_then}
use Rattle.trail_solver.proofs.crowds.narrow_by_pairing.Goals as goal

pub loop-left-preserved : goal.loop-left-preserved
loop-left-preserved c =
    let old = c.args.candidates.now in
    let now = c.loop-left.candidates in
    let new = c.narrow_by_crowd.new.candidates in
    let P : Bool → Type 0 = λ b. NarrowsLatin now new b in
    let narrowed : NarrowsLatin now new true = subst P c.if-not-narrow_by_crowd.false c.narrow_by_crowd.ensures in
    (narrows_then old now new true c.loop-left.invariant.0 narrowed, covers_later now new c.args.pairing c.sides-sides.result narrowed.less c.loop-left.invariant.1)
