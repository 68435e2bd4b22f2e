use Rattle.std.proofs.Common.{[], ◌∷◌, ◌++◌, ◌≡◌, ◌+◌, arith}
use Rattle.line_replies.specs.UnequalPicture.{sign_above}
use Rattle.line_replies.proofs.Ranges.{map_onto}
use Rattle.line_replies.proofs.draw.unequal_picture.push_signs.Goals as goal

pub loop-x-preserved : goal.loop-x-preserved
loop-x-preserved c =
    let pushed : c.push.new.self.items ≡ c.loop-x.signs.items ++ sign_above c.args.puzzle.now (c.args.first + c.loop-x.x) ∷ [] = cc in (
      map_onto (λ x. sign_above c.args.puzzle.now (c.args.first + x)) [] _ _ 0 c.loop-x.x _ c.loop-x.x (omega arith) (omega arith)
          c.loop-x.invariant.0 pushed,
      omega arith,
    )
