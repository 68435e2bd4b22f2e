use Rattle.std.proofs.Common.{◌<◌, true, sym, ◌∙◌, subst, arith}
use Rattle.std.proofs.lemmas.Bool.{and_parts}
use Rattle.trail_solver.specs.Candidates.{CandidatesValue}
use Rattle.trail_solver.specs.Inner.Pairings.{NarrowsLatin}
use Rattle.trail_solver.proofs.CrowdSteps.{narrows_struck}
use Rattle.trail_solver.proofs.crowds.strike_others.Goals as goal
use Rattle.trail_solver.proofs.crowds.strike_others.Goals.{then-not-has+then-not-is_empty, else-not-has}

pub loop-left-preserved : goal.loop-left-preserved
loop-left-preserved c =
    let old = c.args.candidates.now in
    let left = c.loop-left.left in
    let P : CandidatesValue → Type 0 = λ n. NarrowsLatin old n true in
    let inside : left < old.size = omega (arith, c.loop-left-test.true, c.get-width.ensures.value, c.size.ensures.value) in
    elim c.if-not-has.branch [
      | then-not-has+then-not-is_empty w ↦
          subst P (sym w.candidates-is) (narrows_struck old c.loop-left.candidates w.strike_rights.new.candidates c.args.pairing left c.args.crowd c.args.rights
          c.intersection-struck.result c.requires.others c.loop-left.invariant inside (sym c.has.ensures ∙ w.if-not-has.true)
          (λ n has. (and_parts _ _ (sym (c.intersection-struck.ensures.members n) ∙ has)).0)
          w.strike_rights.ensures.less w.strike_rights.ensures.keeps)
      | else-not-has w ↦ subst P (sym w.candidates-is) c.loop-left.invariant
    ]
