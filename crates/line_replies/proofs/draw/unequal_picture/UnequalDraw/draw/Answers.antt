use Rattle.std.proofs.Common.{◌*◌, ◌++◌, ◌-◌, ◌≡◌, arith, ap, ◌∙◌, append_assoc}
use Rattle.line_replies.specs.UnequalPicture.{squares_line, signs_line}
use Rattle.line_replies.proofs.Ranges.{flat_map_onto}
use Rattle.line_replies.proofs.draw.unequal_picture.UnequalDraw.draw.Goals as goal

pub loop-y-preserved : goal.loop-y-preserved
loop-y-preserved c =
    let width : c.from-width.result ≡ c.args.self.now.size = c.from-width.ensures ∙ c.get.ensures.value ∙ c.size.ensures.value in
    let signs : c.push_signs.new.picture.items ≡ c.loop-y.picture.items ++ signs_line c.args.self.now (c.loop-y.y * c.args.self.now.size)
    = c.in_ok-push_signs.ensures ∙ ap (λ w. c.loop-y.picture.items ++ signs_line c.args.self.now (c.loop-y.y * w)) width in
    let squares : c.push_squares-in-loop-y.new.picture.items
    ≡ c.push_signs.new.picture.items ++ squares_line c.args.self.now c.args.board.now (c.loop-y.y * c.args.self.now.size) =
    c.in_ok-push_squares-2.ensures
    ∙ ap (λ w. c.push_signs.new.picture.items ++ squares_line c.args.self.now c.args.board.now (c.loop-y.y * w)) width in
    flat_map_onto (λ y. signs_line c.args.self.now (y * c.args.self.now.size)
    ++ squares_line c.args.self.now c.args.board.now (y * c.args.self.now.size))
    (squares_line c.args.self.now c.args.board.now 0) _ _ 1 (c.loop-y.y - 1) _ c.loop-y.y (omega arith) (omega arith) c.loop-y.invariant
    (squares ∙ rw signs (append_assoc c.loop-y.picture.items _ _))
