use Rattle.std.proofs.Common.{[], ◌∷◌, ◌++◌, ◌≡◌, ◌+◌, arith}
use Rattle.line_replies.specs.TowersPicture.{corner, clue_at}
use Rattle.line_replies.proofs.Ranges.{map_onto}
use Rattle.line_replies.proofs.draw.towers_picture.clue_row.Goals as goal

pub loop-x-preserved : goal.loop-x-preserved
loop-x-preserved c =
    let pushed : c.push-in-loop-x.new.self.items
    ≡ c.loop-x.symbols.items ++ clue_at c.args.puzzle.now (c.args.first + c.loop-x.x) ∷ [] = cc in (
      map_onto (λ x. clue_at c.args.puzzle.now (c.args.first + x)) (corner ∷ []) _ _ 0 c.loop-x.x _ c.loop-x.x (omega arith) (omega arith)
          c.loop-x.invariant.0 pushed,
      omega arith,
    )
