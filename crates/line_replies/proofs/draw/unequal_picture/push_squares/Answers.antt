use Rattle.std.proofs.Common.{[], ◌∷◌, ◌++◌, ◌+◌, ◌-◌, ◌≡◌, arith, append_assoc, ◌∙◌, ap}
use Rattle.line_replies.specs.Symbols.{square_at}
use Rattle.line_replies.specs.UnequalPicture.{sign_before}
use Rattle.line_replies.proofs.Ranges.{flat_map_behind}
use Rattle.line_replies.proofs.draw.unequal_picture.push_squares.Goals as goal

pub loop-x-preserved : goal.loop-x-preserved
loop-x-preserved c =
    let sign : c.push-in-loop-x.new.self.items ≡ c.loop-x.picture.items ++ sign_before c.args.puzzle.now (c.args.first + c.loop-x.x) ∷ []
    = c.in_ok-push-2.ensures.items ∙ ap (λ s. c.loop-x.picture.items ++ s ∷ []) c.sign_before.ensures in
    let square : c.push-in-loop-x-2.new.self.items
    ≡ c.push-in-loop-x.new.self.items ++ square_at c.args.board.now (c.args.first + c.loop-x.x) ∷ []
    = c.in_ok-push-3.ensures.items ∙ ap (λ s. c.push-in-loop-x.new.self.items ++ s ∷ []) c.square_at-in-loop-x.ensures in
    flat_map_behind (λ x. sign_before c.args.puzzle.now (c.args.first + x) ∷ square_at c.args.board.now (c.args.first + x) ∷ [])
    c.args.picture.now.items (square_at c.args.board.now c.args.first ∷ []) c.loop-x.picture.items c.push-in-loop-x-2.new.self.items
    1 (c.loop-x.x - 1) (c.loop-x.x + 1 - 1) c.loop-x.x (omega arith) (omega arith) c.loop-x.invariant
    (square ∙ rw sign (append_assoc c.loop-x.picture.items _ _))
