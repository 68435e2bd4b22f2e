use Rattle.std.proofs.Common.{ap, ◌∙◌, arith, ◌≡◌, ◌++◌}
use Rattle.line_replies.specs.Symbols.{spaced_line}
use Rattle.line_replies.specs.TowersPicture.{clue_row, towers_row}
use Rattle.line_replies.proofs.Ranges.{flat_map_onto}
use Rattle.line_replies.proofs.draw.towers_picture.TowersDraw.draw.Goals as goal

pub loop-y-preserved : goal.loop-y-preserved
loop-y-preserved c =
    let row : c.push_spaced_line-in-loop-y.new.text.items
    ≡ c.loop-y.picture.items ++ spaced_line (towers_row c.args.self.now c.args.board.now c.loop-y.y) =
    c.in_ok-push_spaced_line-2.ensures
    ∙ ap (λ symbols. c.loop-y.picture.items ++ spaced_line symbols) (c.deref-in-loop-y.ensures.0 ∙ c.towers_row.ensures) in
    flat_map_onto (λ y. spaced_line (towers_row c.args.self.now c.args.board.now y)) (spaced_line (clue_row c.args.self.now 0))
    _ _ 0 c.loop-y.y _ c.loop-y.y (omega arith) (omega arith) c.loop-y.invariant row
