use Rattle.std.proofs.Common.{◌≡◌, ◌↔◌, ℕ, ◌+◌, ◌<◌, true, sym, ap, ◌∙◌, subst}
use Rattle.number_sets.specs.Sets.{has_number}
use Rattle.latin_board.specs.Lines.{line_cell}
use Rattle.trail_solver.specs.Candidates.{IsSetOf}
use Rattle.line_steps.specs.Left.{IsLeft}
use Rattle.step_chains.proofs.Idle.{left_added, left_skipped}
use Rattle.step_chains.proofs.reasons.left_of.Goals as goal
use Rattle.step_chains.proofs.reasons.left_of.Goals.{then-has, else-has}

pub loop-k-preserved : goal.loop-k-preserved
loop-k-preserved c =
    let d = c.args.candidates.now in
    let line = c.args.line in
    let squares = c.args.squares in
    let k = c.loop-k.k in
    let P : ℕ → Type 0 = λ set. (v : ℕ) → (has_number set v ≡ true)
    ↔ ((j : ℕ) × (j < k + 1) × ((has_number squares j ≡ true) × IsLeft d (line_cell d.size line j) v)) in
    elim c.if-has.branch [
      | then-has w ↦
          let here : w.line_cell.result ≡ line_cell d.size line k =
          w.line_cell.ensures.value ∙ ap (λ (n : ℕ). line_cell n line k) c.size-size.ensures.value in
          subst P (sym w.found-is) (left_added d line squares k c.loop-k.found w.values.result w.union-found.result c.loop-k.invariant
          (sym c.has.ensures ∙ w.if-has.true) (subst (λ (n : ℕ). IsSetOf d n w.values.result) here w.values.ensures) w.union-found.ensures.members)
      | else-has w ↦
          subst P (sym w.found-is) (left_skipped d line squares k c.loop-k.found c.loop-k.invariant (sym c.has.ensures ∙ w.if-has.false))
    ]
