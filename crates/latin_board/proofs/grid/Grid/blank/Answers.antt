use Rattle.latin_board.proofs.Padding.{KeepsNumbers-empty, take_empty}
use Rattle.latin_board.specs.Squares.{GridValue}
use Rattle.std.proofs.Common.{ℕ, List, ap}
use Rattle.latin_board.proofs.grid.Grid.blank.Goals as goal

pub invariant_of-result : goal.invariant_of-result
invariant_of-result c =
    rw c.no_numbers.ensures (rw c.get-width.ensures.value at (KeepsNumbers-empty c.get-width.result c.get-width.ensures.smallest c.get-width.ensures.largest))

pub returns : goal.returns
returns c =
    let f : List ℕ → GridValue = λ xs. record { size = c.args.size; numbers = xs } in
    rw c.no_numbers.ensures (ap f (take_empty c.args.size (rw (← c.get-width.ensures.value) c.get-width.ensures.largest)))
