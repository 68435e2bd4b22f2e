-- The counts of a row's fillings are those that a reason's line shows.
use Rattle.std.proofs.Common.{◌≡◌, ◌↔◌, ℕ, ◌<◌, ◌≤◌, true, List, take, slice_index, subst, arith}
use Rattle.number_sets.specs.Sets.{has_number}
use Rattle.line_steps.specs.Views.{view_cell}
use Rattle.line_steps.specs.Laws.LineSquares.{view_cell_once}
use Rattle.trail_solver.specs.Candidates.{CandidatesValue}
use Rattle.towers_game.proofs.Supports.{filled_supported}
use Rattle.line_steps.specs.declared.reason.Reason.{Reason}
use Rattle.line_steps.specs.declared.reason.Reason.TheVariants.{Given, Peer, Place, Bound, Stand, Clue, Sign, Set}
use Rattle.shown_counts.specs.Shown.{CanShow, AreShown, ClueRow, IsRowFrom, IsRowOf}
use Rattle.shown_counts.specs.Inner.Counted.{AreCountsOf}

-- the counts that a row's fillings show at index k are those that lines from the place show in that square
row_shown : (w : ℕ) (May : ℕ → ℕ → Type 0) (place : ℕ) (row : ClueRow) (cell k values : ℕ) (shows : List ℕ) → row.size ≤ 9 → IsRowFrom w May place row
    → k < row.size → view_cell row.size row.place k ≡ cell → AreCountsOf (take row.size row.row) k values shows
    → (v count : ℕ) → has_number values v ≡ true → (has_number (slice_index shows v) count ≡ true) ↔ CanShow w May place cell v count
row_shown w May place row cell k values shows small r inside at counts v count one =
    let low : k < w = subst (λ n. k < n) r.size inside in
    let here : view_cell w place k ≡ cell =
    subst (λ n. view_cell w n k ≡ cell) r.from (subst (λ n. view_cell n row.place k ≡ cell) r.size at) in
    let are : AreCountsOf (take w row.row) k values shows = subst (λ n. AreCountsOf (take n row.row) k values shows) r.size counts in
    let fill = filled_supported w May place count k v row.row (subst (λ n. n ≤ 9) r.size small) low r.sets in (
      λ has.
          let f = fill.0 ((are v count one).0 has) in
          record { edge = r.edge; index = k; inside = low; here = here; line = f.0; filling = f.1; there = f.2 },
      λ s. grind (arith, view_cell_once),
    )

-- the counts that a row's fillings show at index k are those that the reason's line shows in that square
pub told_shown : (c : CandidatesValue) (reason : Reason) (row : ClueRow) (cell k values : ℕ) (shows : List ℕ) → row.size ≤ 9 → IsRowOf c reason row
    → k < row.size → view_cell row.size row.place k ≡ cell → AreCountsOf (take row.size row.row) k values shows → AreShown c reason cell values shows
told_shown c (Given at) row cell k values shows small r inside here counts = absurd r
told_shown c (Peer by) row cell k values shows small r inside here counts = absurd r
told_shown c (Place line index other) row cell k values shows small r inside here counts = absurd r
told_shown c (Bound place) row cell k values shows small r inside here counts = search (arith, row_shown)
told_shown c (Stand place) row cell k values shows small r inside here counts = search (arith, row_shown)
told_shown c (Clue place) row cell k values shows small r inside here counts = search (arith, row_shown)
told_shown c (Sign from to) row cell k values shows small r inside here counts = absurd r
told_shown c (Set line squares group) row cell k values shows small r inside here counts = absurd r
