use Rattle.std.proofs.Common.{[], arith}
use Rattle.line_replies.specs.BoardTexts.{done_line}
use Rattle.line_replies.proofs.Ranges.{flat_map_onto}
use Rattle.line_replies.proofs.view.done_clues.done_of.Goals as goal

pub loop-place-preserved : goal.loop-place-preserved
loop-place-preserved c = (
  flat_map_onto (done_line c.args.board.now) [] _ _ 0 c.loop-place.place _ c.loop-place.place (omega arith) (omega arith)
      c.loop-place.invariant.0 c.push_done_line.ensures.line,
  omega arith,
)
