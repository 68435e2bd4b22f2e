-- The laws of what Towers demands: it stands along the lines of the grid's edge places, and is all that the clues ask.
use Rattle.std.proofs.lemmas.Bool.Decides.{nat_tests}
use Rattle.std.proofs.Common.{◌≡◌, ◌↔◌, ℕ, ◌*◌, ◌<◌, Some, length, map, refl, sym, ap, ◌∙◌, subst, arith}
use Rattle.std.specs.Bool.{IsTrue}
use Rattle.std.specs.List.{range_with_len}
use Rattle.std.proofs.lemmas.Bool.{lt-ltb, eqb-true, eq-eqb}
use Rattle.std.proofs.lemmas.Grind.{same_number_lists}
use Rattle.std.proofs.lemmas.List.{get_or_past, get_or-map, length-map}
use Rattle.std.proofs.lemmas.List.FromFn.{length-map-range_with_len, get_or-map-range_with_len}
use Rattle.std.proofs.lemmas.Option.{cond_some, none-some}
use Rattle.latin_board.specs.Squares.{GridValue, IsGrid, IsFull, number_at}
use Rattle.latin_board.proofs.PeerLines.{line_peers}
use Rattle.tower_lines.specs.TowersSeen.{seen}
use Rattle.towers_game.specs.Towers.{TowersValue, IsTowers, clue_of, holds_clues}
use Rattle.line_steps.specs.Views.{line_from, view_cell}
use Rattle.towers_game.specs.Laws.TowersItems.{clues_decide, length-line_from}
use Rattle.line_steps.specs.Laws.Edges.{view_line_low, view_index_low}
use Rattle.line_steps.specs.Laws.LineSquares.{view_index_apart, view_inside}
use Rattle.towers_game.specs.Laws.ViewLines.{view_number}
use Rattle.board_checks.specs.declared.spot.Spot.{Spot}
use Rattle.board_checks.specs.declared.spot.Spot.TheVariants.{Edge, RightOf, Below}
use Rattle.board_checks.specs.Demands.{Demand, IsOfPeers, numbers_of}
use Rattle.board_checks.specs.Spots.{IsSpot, MeetsAll}
use Rattle.board_checks.specs.Games.{clue_demand, towers_demand}

-- ---- where there is a clue

-- what is demanded at an edge place is what its clue demands
pub demanded : (v : TowersValue) (place : ℕ) (d : Demand) → towers_demand v (Edge place) ≡ Some d
    → (0 < clue_of v place) × (clue_demand v place ≡ d)
demanded v place d e = grind (arith, nat_tests, cond_some)

placed : (v : TowersValue) (place : ℕ) → IsTowers v → 0 < clue_of v place → place < 4 * v.size
placed v place valid clued = grind (arith, nat_tests, get_or_past)

pub demand_spot : (v : TowersValue) (spot : Spot) (d : Demand) → IsTowers v → towers_demand v spot ≡ Some d
    → IsSpot v.size spot
demand_spot v spot d valid e = grind (arith, nat_tests, placed, demanded, none-some)

-- ---- the squares of a clue's line

clue_on_line : (v : TowersValue) (place : ℕ) → place < 4 * v.size → IsOfPeers v.size (clue_demand v place)
clue_on_line v place inside =
    grind (
      arith,
      nat_tests,
      length-map-range_with_len,
      get_or-map-range_with_len,
      view_inside,
      line_peers,
      view_line_low,
      view_index_low,
      view_index_apart,
    )

pub demand_line : (v : TowersValue) (spot : Spot) (d : Demand) → IsTowers v → towers_demand v spot ≡ Some d
    → IsOfPeers v.size d
demand_line v (Edge place) d valid e =
    let there = demanded v place d e in
    subst (IsOfPeers v.size) there.1 (clue_on_line v place (placed v place valid there.0))
demand_line v (RightOf cell) d valid e = absurd (none-some d e)
demand_line v (Below cell) d valid e = absurd (none-some d e)

-- ---- all that is demanded

-- the numbers on the squares of a clue's demand are those of the line from its place
pub view_numbers : (v : TowersValue) (g : GridValue) (place : ℕ) → g.size ≡ v.size → place < 4 * v.size
    → numbers_of g (clue_demand v place) ≡ line_from g place
view_numbers v g place size inside =
    let cells = map (view_cell v.size place) (range_with_len 0 v.size) in
    let count : length cells ≡ v.size = length-map-range_with_len (view_cell v.size place) 0 v.size in
    let both : length (map (number_at g) cells) ≡ length cells = length-map cells (number_at g) in
    same_number_lists (map (number_at g) cells) (line_from g place)
    (both ∙ count ∙ sym size ∙ sym (length-line_from g place))
    (λ k low.
    let within : k < v.size = omega (arith, both, count) in
    let cell = get_or-map-range_with_len (view_cell v.size place) 0 v.size k k 0 within (omega arith) in
    get_or-map (number_at g) cells k 0 0 (omega (arith, count))
    ∙ ap (number_at g) cell
    ∙ ap (λ w. number_at g (view_cell w place k)) (sym size)
    ∙ sym (view_number g place k (omega (arith, size)) (omega (arith, size))))

pub demand_all : (v : TowersValue) (g : GridValue) → IsTowers v → IsGrid g → IsFull g → g.size ≡ v.size
    → IsTrue (holds_clues v g) ↔ MeetsAll (towers_demand v) g
demand_all v g valid is_grid full size = (
  λ held. meets ((clues_decide v g).0 held).each,
  λ all. (clues_decide v g).1 (record {
    each = λ place inside clued.
        let says = all (Edge place) (clue_demand v place) (rw (lt-ltb 0 (clue_of v place) clued) refl) in
        ap seen (sym (view_numbers v g place size inside))
        ∙ eqb-true (seen (numbers_of g (clue_demand v place))) (clue_of v place) says;
  }),
)
  where
    meets : ((place : ℕ) → place < 4 * v.size → 0 < clue_of v place → seen (line_from g place) ≡ clue_of v place)
        → MeetsAll (towers_demand v) g
    meets each (Edge place) d e =
        let there = demanded v place d e in
        let inside = placed v place valid there.0 in
        let shown = ap seen (view_numbers v g place size inside) ∙ each place inside there.0 in
        subst (λ (d : Demand). IsTrue (d.says (numbers_of g d))) there.1
        (eq-eqb (seen (numbers_of g (clue_demand v place))) (clue_of v place) shown)
    meets each (RightOf cell) d e = absurd (none-some d e)
    meets each (Below cell) d e = absurd (none-some d e)
