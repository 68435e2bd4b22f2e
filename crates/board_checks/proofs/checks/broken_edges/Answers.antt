use Rattle.std.proofs.Common.{arith}
use Rattle.board_checks.specs.declared.spot.Spot.TheVariants.{Edge}
use Rattle.board_checks.proofs.Tables.{none_told, one_more_told, all_told}
use Rattle.board_checks.proofs.checks.broken_edges.Goals as goal

pub loop-place-init : goal.loop-place-init
loop-place-init g c = none_told _

pub loop-place-preserved : goal.loop-place-preserved
loop-place-preserved g c =
    one_more_told _ c.loop-place.place c.is_broken.result c.loop-place.found (omega arith) c.is_broken.ensures c.loop-place.invariant

pub returns : goal.returns
returns g c =
    all_told _ c.loop-place.place c.loop-place.found c.loop-place.invariant (λ k b.
    let inside = g.met.P.Demands.demand_spot c.args.p.now (Edge k) b.0 c.size.ensures.valid b.1 in
    omega arith)
