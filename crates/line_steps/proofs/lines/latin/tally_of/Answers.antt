use Rattle.std.proofs.Common.{◌≡◌, ◌<◌, ◌∙◌, arith}
use Rattle.latin_board.specs.Lines.{line_cell}
use Rattle.line_steps.proofs.LineTallying.{tally_more, empty_dead, clash_dead, lost_dead, whole_tally}
use Rattle.line_steps.proofs.lines.latin.tally_of.Goals as goal

pub returns-then-is_empty-clause-err : goal.returns-then-is_empty-clause-err
returns-then-is_empty-clause-err c =
    let now = c.args.candidates.now in
    let line = c.args.squares.now.line in
    let k = c.loop-place.place in
    let width : c.get-width.result ≡ now.size = c.get-width.ensures.value ∙ c.size.ensures.value in
    let cell : c.cell.result ≡ line_cell now.size line k = rw c.requires.size at c.cell.ensures.value in
    empty_dead now line k c.values-set.result c.all_places.result (omega (arith, c.loop-place-test.true, width)) (rw cell at c.values-set.ensures)
    c.if-is_empty.ensures.members (rw width at c.all_places.ensures)

pub returns-in_default-clause-err : goal.returns-in_default-clause-err
returns-in_default-clause-err c =
    let now = c.args.candidates.now in
    let line = c.args.squares.now.line in
    let k = c.loop-place.place in
    let low : k < now.size = omega (arith, c.loop-place-test.true, c.get-width.ensures.value, c.size.ensures.value) in
    let cell : c.cell.result ≡ line_cell now.size line k = rw c.requires.size at c.cell.ensures.value in
    clash_dead now line k c.values-set.result c.one.result c.loop-place.tally low (rw cell at c.values-set.ensures) c.loop-place.invariant
    c.in_default.ensures c.one.ensures.members

pub loop-place-preserved : goal.loop-place-preserved
loop-place-preserved c =
    let now = c.args.candidates.now in
    let line = c.args.squares.now.line in
    let k = c.loop-place.place in
    let cell : c.cell.result ≡ line_cell now.size line k = rw c.requires.size at c.cell.ensures.value in
    tally_more now line k c.values-set.result c.loop-place.tally c.in-Some.more (rw cell at c.values-set.ensures) c.loop-place.invariant
    c.in-Some.ensures

pub returns-then-is_empty-2-clause-ok : goal.returns-then-is_empty-2-clause-ok
returns-then-is_empty-2-clause-ok c =
    let now = c.args.candidates.now in
    let width : c.get-width.result ≡ now.size = c.get-width.ensures.value ∙ c.size.ensures.value in
    let all : c.loop-place.place ≡ now.size = omega (arith, c.loop-place.auto.place-end, c.loop-place-test.false, width) in
    whole_tally now c.args.squares.now.line c.up_to.result c.difference.result c.loop-place.tally (rw all at c.loop-place.invariant)
    (rw width at c.up_to.ensures.members) c.difference.ensures c.if-is_empty-2.ensures.members

pub returns-else-is_empty-2-clause-err : goal.returns-else-is_empty-2-clause-err
returns-else-is_empty-2-clause-err c =
    let now = c.args.candidates.now in
    let width : c.get-width.result ≡ now.size = c.get-width.ensures.value ∙ c.size.ensures.value in
    let all : c.loop-place.place ≡ now.size = omega (arith, c.loop-place.auto.place-end, c.loop-place-test.false, width) in
    lost_dead now c.args.squares.now.line c.up_to.result c.difference.result c.all_places-else-is_empty-2.result c.loop-place.tally (rw all at c.loop-place.invariant)
    (rw width at c.up_to.ensures.members) c.difference.ensures c.if-is_empty-2.ensures.members (rw width at c.all_places-else-is_empty-2.ensures)
