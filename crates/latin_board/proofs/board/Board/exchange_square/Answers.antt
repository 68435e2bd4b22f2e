use Rattle.std.proofs.Common.{◌≡◌, ◌*◌, ◌<◌, ap, take, set}
use Rattle.std.proofs.Math.Seq.{take-set-lt}
use Rattle.latin_board.specs.Boards.{BoardValue}
use Rattle.latin_board.proofs.board.Board.exchange_square.Goals as goal

pub returns-clause-board : goal.returns-clause-board
returns-clause-board c =
    let w = c.self.inside.grid.size in
    let square = c.args.square.now in
    let size_is : w ≡ c.args.self.now.size = ap (λ (b : BoardValue). b.size) c.self.view_is in
    let inside : square.cell < w * w = rw size_is c.requires.cell in
    let marks : take (c.set.new.self.size * c.set.new.self.size) (set c.self.inside.marks square.cell square.marks) ≡ set (take (w * w) c.self.inside.marks) square.cell square.marks =
    rw c.set.ensures.size (take-set-lt _ _ _ _ inside) in
    rw (← c.self.view_is) (λ i. record {
      size = c.set.ensures.size i;
      numbers = c.set.ensures.numbers i;
      marks = marks i;
      completed = c.swap.ensures.x_after i;
      cheated = c.swap-2.ensures.x_after i;
      done = c.self.inside.done;
    })
