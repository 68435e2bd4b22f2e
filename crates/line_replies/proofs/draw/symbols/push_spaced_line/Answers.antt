use Rattle.std.proofs.Common.{arith, ◌++◌, ◌∷◌, [], get_or, ap, ◌∙◌}
use Rattle.line_replies.proofs.SpacedLines.{joined_first, joined_more}
use Rattle.line_replies.proofs.draw.symbols.push_spaced_line.Goals as goal
use Rattle.line_replies.proofs.draw.symbols.push_spaced_line.Goals.{then-i-gt0+in_ok-push, else-i-gt0}

pub loop-i-preserved : goal.loop-i-preserved
loop-i-preserved c =
    elim c.if-i-gt0.branch [
      | then-i-gt0+in_ok-push w ↦
          joined_more 32 c.args.symbols.now c.loop-i.i c.args.text.now.items c.loop-i.text.items _ (omega arith) (omega arith)
          c.loop-i.invariant
          (c.in_ok-push-2.ensures.items
          ∙ rw w.text-is (ap (λ front. front ++ get_or c.args.symbols.now c.loop-i.i 0 ∷ []) w.in_ok-push.ensures.items))
      | else-i-gt0 w ↦
          joined_first 32 c.args.symbols.now c.loop-i.i c.args.text.now.items c.loop-i.text.items _ (omega arith) (omega arith)
          c.loop-i.invariant (c.in_ok-push-2.ensures.items ∙ rw w.text-is)
    ]
