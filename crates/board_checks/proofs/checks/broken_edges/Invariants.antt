use Rattle.board_checks.specs.declared.spot.Spot.TheVariants.{Edge}
use Rattle.board_checks.specs.Spots.{IsBrokenAt}
use Rattle.board_checks.proofs.Tables.{AreTold}
use Rattle.board_checks.proofs.checks.broken_edges.Given as goal

abbrev pub invariant-loop-place : goal.invariant-loop-place
invariant-loop-place g l = AreTold l.place (λ k. IsBrokenAt (g.P.Demands.demand l.p) l.grid (Edge k)) l.found
