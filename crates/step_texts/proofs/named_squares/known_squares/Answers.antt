use Rattle.std.proofs.Common.{◌≡◌, ◌<◌, ◌*◌, ℕ, ◌∷◌, [], ◌++◌, ◌∙◌, subst, arith}
use Rattle.step_texts.specs.declared.told.KnownSquare.{KnownSquare}
use Rattle.step_texts.proofs.KnownSquares.{known_more, known_still, set_known}
use Rattle.step_texts.proofs.named_squares.known_squares.Goals as goal
use Rattle.step_texts.proofs.named_squares.known_squares.Goals.{then-is_named+in_ok-push, else-is_named}

pub loop-cell-preserved : goal.loop-cell-preserved
loop-cell-preserved c = elim c.if-is_named.branch [
  | then-is_named+in_ok-push w ↦
      let view = c.args.candidates.now in
      let cell = c.loop-cell.cell in
      let inside : cell < view.size * view.size =
      subst (λ (n : ℕ). cell < n * n) (c.get-width.ensures.value ∙ c.size-size.ensures.value) c.loop-cell-test.true in
      let last : KnownSquare = record { cell = cell; numbers = w.values.result } in
      known_more view c.loop-cell.known.items c.if-is_named.known.items last (cc (w.known-is, w.in_ok-push.ensures.items))
      c.loop-cell.invariant (set_known view last inside w.values.ensures)
  | else-is_named w ↦
      known_still c.args.candidates.now c.loop-cell.known.items c.if-is_named.known.items c.loop-cell.cell (cc (w.known-is))
      c.loop-cell.invariant
]
