use Rattle.std.proofs.Common.{◌≡◌, ◌<◌, ◌*◌, ℕ, ap, sym, subst, arith}
use Rattle.latin_board.specs.Squares.{IsLatin}
use Rattle.puzzle_gen.proofs.CombinedSquares.{latin_combined, combined_all}
use Rattle.puzzle_gen.proofs.seeded_square.combine.Goals as goal

pub returns-clause-value : goal.returns-clause-value
returns-clause-value c =
    combined_all c.args.size c.args.rows.now c.args.columns.now c.args.symbols.now c.loop-cell.grid c.loop-cell.invariant.0
    c.size-size-2.ensures.valid (λ j inside.
    let squares : c.get-width.result * c.get-width.result ≡ c.args.size * c.args.size = ap (λ (n : ℕ). n * n) c.get-width.ensures.value in
    c.loop-cell.invariant.1 j (omega arith))

pub returns-clause-latin : goal.returns-clause-latin
returns-clause-latin c =
    let some : 0 < c.args.size = omega arith in
    subst IsLatin (sym (returns-clause-value c))
    (latin_combined c.args.size c.args.rows.now c.args.columns.now c.args.symbols.now
    some c.requires.rows c.requires.columns c.requires.symbols)
