use Rattle.std.proofs.Common.{◌↔◌, ℕ, ◌*◌, ◌<◌, IsTrue, false, slice_index_or, arith}
use Rattle.board_checks.specs.declared.spot.Spot.TheVariants.{RightOf, Below}
use Rattle.board_checks.specs.Errors.{ErrorsValue}
use Rattle.board_checks.specs.Demands.{IsRepeated}
use Rattle.board_checks.specs.Spots.{IsBrokenAt}
use Rattle.board_checks.proofs.Tables.{none_told, one_more_told, all_told, square_in_table}
use Rattle.board_checks.proofs.WholeGrids.{AreDemandsOf, AreErrorsOf, at_each_spot, errors_wrong, errors_solved}
use Rattle.board_checks.proofs.checks.errors.Goals as goal

pub loop-cell-init : goal.loop-cell-init
loop-cell-init g c = record { repeated = none_told _; right = none_told _; below = none_told _ }

pub loop-cell-preserved : goal.loop-cell-preserved
loop-cell-preserved g c =
    let old = c.loop-cell.invariant in
    let cell = c.loop-cell.cell in
    let here = square_in_table c.get-width.result cell c.get-width.ensures.largest c.loop-cell-test.true in
    record {
      repeated = one_more_told _ cell c.is_repeated.result c.loop-cell.repeated here c.is_repeated.ensures old.repeated;
      right = one_more_told _ cell c.is_broken.result c.loop-cell.right here c.is_broken.ensures old.right;
      below = one_more_told _ cell c.is_broken-in-loop-cell.result c.loop-cell.below here c.is_broken-in-loop-cell.ensures old.below;
    }

pub returns : goal.returns
returns g c =
    let p = c.args.p.now in
    let grid = c.args.grid.now in
    let puzzle = g.P.Rules.puzzle p in
    let demand = g.P.Demands.demand p in
    let valid = c.size-size.ensures.valid in
    let at = c.loop-cell in
    let told = at.invariant in
    let past = c.loop-cell-test.false in
    let e : ErrorsValue = record { repeated = at.repeated; edges = c.broken_edges-edges.result; right = at.right; below = at.below } in
    let laws : AreDemandsOf puzzle demand = record {
      lines = λ spot d is. g.met.P.Demands.demand_line p spot d valid is;
      all = λ h is_grid full size. g.met.P.Demands.demand_all p h valid is_grid full size;
    } in
    let repeated : (k : ℕ) → IsTrue (slice_index_or at.repeated k false) ↔ IsRepeated grid k =
    all_told (IsRepeated grid) at.cell at.repeated told.repeated (λ k r.
    let here = rw (c.requires, ← c.size.ensures.value, ← c.get-width.ensures.value) at r.peers.first in omega (arith, past)) in
    let right : (k : ℕ) → IsTrue (slice_index_or at.right k false) ↔ IsBrokenAt demand grid (RightOf k) =
    all_told (λ k. IsBrokenAt demand grid (RightOf k)) at.cell at.right told.right (λ k b.
    let here = rw (← c.size.ensures.value, ← c.get-width.ensures.value) at (g.met.P.Demands.demand_spot p (RightOf k) b.0 valid b.1) in
    omega (arith, past)) in
    let below : (k : ℕ) → IsTrue (slice_index_or at.below k false) ↔ IsBrokenAt demand grid (Below k) =
    all_told (λ k. IsBrokenAt demand grid (Below k)) at.cell at.below told.below (λ k b.
    let here = rw (← c.size.ensures.value, ← c.get-width.ensures.value) at (g.met.P.Demands.demand_spot p (Below k) b.0 valid b.1) in
    omega (arith, past)) in
    let found : AreErrorsOf puzzle demand grid e = record {
      size = c.requires;
      repeated = repeated;
      broken = at_each_spot demand grid e c.broken_edges-edges.ensures right below;
    } in
    record {
      repeated = repeated;
      broken = found.broken;
      wrong = errors_wrong puzzle demand grid e laws found;
      solved = errors_solved puzzle demand grid e laws found c.size-valid.ensures.valid;
    }
