use Rattle.std.proofs.Common.{◌≡◌, ◌∙◌, ap, arith}
use Rattle.latin_board.specs.Squares.{number_at}
use Rattle.latin_board.proofs.FoundNumbers.{found_none, found_more, once_decided}
use Rattle.latin_board.proofs.grid.Grid.has_each_once.Goals as goal

pub loop-place-init : goal.loop-place-init
loop-place-init c = rw c.empty-found.ensures (found_none c.args.self.now c.args.line)

pub loop-place-preserved : goal.loop-place-preserved
loop-place-preserved c =
    let at = c.get-number.ensures.value ∙ ap (number_at c.args.self.now) (rw c.size-size.ensures.value at c.line_cell.ensures.value) in
    found_more c.args.self.now c.args.line c.loop-place.place c.loop-place.found c.one.result c.get-number.result c.union-found.result
    c.loop-place.invariant at c.one.ensures.members c.union-found.ensures.members

pub returns : goal.returns
returns c =
    let whole : c.loop-place.place ≡ c.args.self.now.size = omega arith in
    let every = rw (c.get-width.ensures.value ∙ c.size-size.ensures.value) at c.up_to.ensures.members in
    once_decided c.is_subset.result c.args.self.now c.args.line c.loop-place.found c.up_to.result
    (rw whole at c.loop-place.invariant) (record { is = every }) c.is_subset.ensures
