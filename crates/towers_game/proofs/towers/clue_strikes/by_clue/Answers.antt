use Rattle.std.proofs.lemmas.Grind.{get_or_default_zero}
use Rattle.std.proofs.Common.{ℕ, ◌≡◌, ◌<◌, ◌≤◌, ◌↔◌, true, slice_index, get_or, arith, sym, ◌∙◌, ap, subst}
use Rattle.number_sets.specs.Sets.{has_number}
use Rattle.trail_solver.specs.Pairs.{IsPair}
use Rattle.line_steps.specs.Views.{view_cell}
use Rattle.towers_game.specs.Fillings.{IsUnfilled}
use Rattle.towers_game.specs.Rows.{May}
use Rattle.towers_game.proofs.towers.clue_strikes.by_clue.Goals as goal

pub returns-then-view_cell-cell : goal.returns-then-view_cell-cell
returns-then-view_cell-cell c = λ v.
    let now = c.args.candidates.now in
    let w = now.size in
    let may = May c.args.look now in
    let k = c.loop-k.k in
    let row = c.unfilled_row-row.result in
    let width = c.get-k-end.ensures.value ∙ c.size-size.ensures.value in
    let low : k < w = omega (arith, width, c.loop-k-test.true) in
    let small : w ≤ 9 = c.size-size.ensures.valid.largest in
    let same : get_or row k c.index-row-k.result ≡ slice_index row k =
    get_or_default_zero row k c.index-row-k.result (omega (arith, low, small, c.unfilled_row-row.ensures.count)) in
    let here : view_cell w c.args.place k ≡ c.args.cell =
    ap (λ (n : ℕ). view_cell n c.args.place k) (sym c.size-size.ensures.value) ∙ sym c.view_cell.ensures.value ∙ c.if-view_cell-cell.true in
    let P : ℕ → ℕ → Type 0 = λ set cell. (has_number set v ≡ true) ↔ (IsPair w cell v × IsUnfilled w may c.args.place c.args.clue cell v) in
    subst (λ (set : ℕ). P set c.args.cell) (sym same) (subst (λ (cell : ℕ). P (slice_index row k) cell) here (c.unfilled_row-row.ensures.each k v low))
