use Rattle.std.proofs.Common.{arith}
use Rattle.latin_board.specs.Lines.{line_cell}
use Rattle.line_steps.proofs.LineTallying.{left_is}
use Rattle.line_steps.proofs.lines.latin.sets_at.Goals as goal

pub returns : goal.returns
returns c = λ k v low.
    let now = c.args.candidates.now in
    let row = c.loop-k.invariant.1 k v (omega (arith, low, c.loop-k-test.false, c.get-k-end.ensures.value, c.size.ensures.value)) in
    let left = left_is now (line_cell now.size c.args.line k) _ (c.line_sets-sets.ensures.each k low) v in
    (λ has. let h = row.0 has in (h.0, left.0 h.1), λ h. row.1 (h.0, left.1 h.1))
