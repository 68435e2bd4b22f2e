use Rattle.std.proofs.Common.{ℕ, ◌<◌, sym, ap, ◌∙◌, subst, arith}
use Rattle.trail_solver.specs.Candidates.{CandidatesValue}
use Rattle.trail_solver.specs.Inner.Pairings.{pair_cell}
use Rattle.trail_solver.proofs.CrowdSteps.{StrikesRights, strikes_more}
use Rattle.trail_solver.proofs.crowds.strike_rights.Goals as goal
use Rattle.trail_solver.proofs.crowds.strike_rights.Goals.{then-has, else-has}

pub loop-right-preserved : goal.loop-right-preserved
loop-right-preserved c =
    let old = c.args.candidates.now in
    let right = c.loop-right.right in
    let P : CandidatesValue → Type 0 = λ n. StrikesRights old n c.args.pairing c.args.left c.args.rights in
    let inside : right < old.size = omega (arith, c.loop-right-test.true, c.get-right-end.ensures.value, c.size-size.ensures.value) in
    elim c.if-has.branch [
      | then-has w ↦
          let cell_is = w.pair-cell.ensures.cell ∙ ap (λ (n : ℕ). pair_cell n c.args.pairing c.args.left right) c.size-size.ensures.value in
          subst P (sym w.candidates-is) (strikes_more old c.loop-right.candidates w.remove.new.self c.args.pairing c.args.left c.args.rights right
          w.pair-cell.result.0 w.pair-cell.result.1 c.loop-right.invariant inside (sym c.has.ensures ∙ w.if-has.true) cell_is w.pair-cell.ensures.value
          (record { size = w.remove.ensures.size; trail = w.remove.ensures.trail }))
      | else-has w ↦ subst P (sym w.candidates-is) c.loop-right.invariant
    ]
