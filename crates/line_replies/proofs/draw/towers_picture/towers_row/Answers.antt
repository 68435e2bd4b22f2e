use Rattle.std.proofs.Common.{[], ◌∷◌, ◌++◌, ◌≡◌, ◌+◌, ◌*◌, arith}
use Rattle.line_replies.specs.Symbols.{square_at}
use Rattle.line_replies.specs.TowersPicture.{clue_at}
use Rattle.line_replies.proofs.Ranges.{map_onto}
use Rattle.line_replies.proofs.draw.towers_picture.towers_row.Goals as goal

pub loop-x-preserved : goal.loop-x-preserved
loop-x-preserved c =
    let first = c.from.result * c.from-2.result in
    let pushed : c.push-in-loop-x.new.self.items ≡ c.loop-x.symbols.items ++ square_at c.args.board.now (first + c.loop-x.x) ∷ [] = cc in (
      map_onto (λ x. square_at c.args.board.now (first + x)) (clue_at c.args.puzzle.now (2 * c.get-width.result + c.args.y) ∷ [])
          _ _ 0 c.loop-x.x _ c.loop-x.x (omega arith) (omega arith) c.loop-x.invariant.0 pushed,
      omega arith,
    )
