use Rattle.std.proofs.Common.{◌≡◌, ℕ, ◌<◌}
use Rattle.latin_board.specs.Lines.{line_cell}
use Rattle.line_steps.specs.Takes.{Takes, AreChanged}
use Rattle.line_steps.specs.Inner.LineStrikes.{IsLeftByRest}
use Rattle.line_steps.proofs.lines.latin.LineTally.strike_along.Given as goal

abbrev pub invariant-loop-k : goal.invariant-loop-k
invariant-loop-k l = record {
  takes : Takes (λ cell v. (j : ℕ) × (j < l.k) × (cell ≡ line_cell l.fn.candidates.size l.squares.line j) × IsLeftByRest l.fn.candidates l.squares.line j v)
      l.fn.candidates l.candidates;
  changed : AreChanged l.squares.line l.places l.fn.candidates l.candidates;
}
