use Rattle.std.proofs.Common.{◌≡◌, ℕ, ◌+◌, ◌*◌, ◌<◌, ◌∙◌, ap, sym, subst, arith}
use Rattle.latin_board.specs.Squares.{GridValue}
use Rattle.trail_solver.proofs.FilledGrids.{FilledSoFar, FilledSoFar-more, FilledSoFar-all}
use Rattle.trail_solver.proofs.squares.filled.Goals as goal
use Rattle.trail_solver.proofs.squares.filled.Goals.{in-Some, in_default}

pub loop-cell-preserved : goal.loop-cell-preserved
loop-cell-preserved c =
    let P : GridValue → Type 0 = λ g. FilledSoFar c.args.candidates.now g (c.loop-cell.cell + 1) in
    let width : c.get-width.result ≡ c.args.candidates.now.size = c.get-width.ensures.value ∙ c.size-size.ensures.value in
    let inside : c.loop-cell.cell < c.args.candidates.now.size * c.args.candidates.now.size = subst (λ (n : ℕ). c.loop-cell.cell < n * n) width c.loop-cell-test.true in
    elim c.match-only.branch [
      | in-Some w ↦ subst P (sym w.grid-is) (FilledSoFar-more c.args.candidates.now c.loop-cell.grid w.set.new.self c.loop-cell.cell w.in-Some.value c.loop-cell.invariant inside w.in-Some.ensures w.set.ensures.size w.set.ensures.numbers)
      | in_default w ↦ let only = c.requires.each c.loop-cell.cell inside in absurd (w.in_default.ensures only.0 only.1)
    ]

pub returns : goal.returns
returns c =
    let width : c.get-width.result ≡ c.args.candidates.now.size = c.get-width.ensures.value ∙ c.size-size.ensures.value in
    let end : c.loop-cell.cell ≡ c.get-width.result * c.get-width.result = omega arith in
    FilledSoFar-all c.args.candidates.now c.loop-cell.grid c.loop-cell.cell c.size-size.ensures.valid c.loop-cell.invariant (end ∙ ap (λ (n : ℕ). n * n) width)
