use Rattle.std.proofs.Common.{◌≡◌, ℕ, ◌<◌}
use Rattle.latin_board.specs.Squares.{number_at}
use Rattle.trail_solver.proofs.rules.holds_givens.Given as goal

abbrev pub invariant-loop-cell : goal.invariant-loop-cell
invariant-loop-cell g l =
    (k : ℕ) → k < l.cell → 0 < (g.P.Rules.puzzle l.p).given k → number_at l.grid k ≡ (g.P.Rules.puzzle l.p).given k
