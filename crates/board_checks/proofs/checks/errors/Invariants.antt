use Rattle.board_checks.specs.declared.spot.Spot.TheVariants.{RightOf, Below}
use Rattle.board_checks.specs.Demands.{IsRepeated}
use Rattle.board_checks.specs.Spots.{IsBrokenAt}
use Rattle.board_checks.proofs.Tables.{AreTold}
use Rattle.board_checks.proofs.checks.errors.Given as goal

abbrev pub invariant-loop-cell : goal.invariant-loop-cell
invariant-loop-cell g l = record {
  repeated : AreTold l.cell (IsRepeated l.grid) l.repeated;
  right : AreTold l.cell (λ k. IsBrokenAt (g.P.Demands.demand l.p) l.grid (RightOf k)) l.right;
  below : AreTold l.cell (λ k. IsBrokenAt (g.P.Demands.demand l.p) l.grid (Below k)) l.below;
}
