-- A clue is broken where the line from its place has no filling.
use Rattle.std.proofs.Common.{◌≡◌, ◌↔◌, ℕ, ◌+◌, ◌<◌, ◌≤◌, Bool, not, List, length, get_or, map, take, slice_set, inl, inr, refl, sym, ap, ◌∙◌, arith, subst}
use Rattle.std.specs.Bool.{IsTrue}
use Rattle.std.specs.List.{range_with_len}
use Rattle.std.proofs.lemmas.Bool.{eqb-true, eq-eqb, lt-ltb, cases_eq, cases_Bool, both_ways, not_from_false, not-true}
use Rattle.std.proofs.lemmas.List.{get_or-map, length-map, get_or-take, length-take-le, get_or-set_same, get_or-set_other}
use Rattle.std.proofs.lemmas.List.FromFn.{length-map-range_with_len, get_or-map-range_with_len}
use Rattle.latin_board.specs.Squares.{GridValue, number_at}
use Rattle.tower_lines.specs.TowersSeen.{seen}
use Rattle.tower_lines.specs.LineFillings.{IsFilling}
use Rattle.towers_game.specs.Towers.{TowersValue, clue_of}
use Rattle.line_steps.specs.Views.{view_cell}
use Rattle.board_checks.specs.declared.spot.Spot.{Spot}
use Rattle.board_checks.specs.declared.spot.Spot.TheVariants.{Edge}
use Rattle.board_checks.specs.Demands.{IsBroken, numbers_of}
use Rattle.board_checks.specs.Spots.{IsBrokenAt}
use Rattle.board_checks.specs.Games.{clue_demand, towers_demand}
use Rattle.board_checks.specs.Inner.TowersLines.{CanHold, AreSetsFrom}
use Rattle.board_checks.specs.Laws.TowersDemands.{demanded}
use Rattle.board_checks.proofs.Fillings.{AreLineSets, start_from_filling, filling_from_start}

-- the sets from an edge place are those of the numbers at which the clue's demand looks
clue_sets : (v : TowersValue) (g : GridValue) (place : ℕ) (sets : List ℕ) → g.size ≡ v.size → g.size ≤ 9 → AreSetsFrom g place sets
    → AreLineSets g.size (numbers_of g (clue_demand v place)) (take g.size sets)
clue_sets v g place sets size small are =
    let cells = map (view_cell v.size place) (range_with_len 0 v.size) in
    let count : length cells ≡ v.size = length-map-range_with_len (view_cell v.size place) 0 v.size in
    let both : length (map (number_at g) cells) ≡ length cells = length-map cells (number_at g) in
    record {
      squares = both ∙ count ∙ sym size;
      places = length-take-le g.size sets (omega (arith, are.room));
      each = λ k inside.
          let cell = get_or-map-range_with_len (view_cell v.size place) 0 v.size k k 0 (omega (arith, size)) (omega arith) in
          let number : get_or (map (number_at g) cells) k 0 ≡ number_at g (view_cell g.size place k) =
          get_or-map (number_at g) cells k 0 0 (omega (arith, count, size)) ∙ ap (number_at g) cell
          ∙ ap (λ w. number_at g (view_cell w place k)) (sym size) in
          rw (number, get_or-take g.size sets k 0 inside) (are.each k inside);
    }

-- with the set of one square more, there are sets for one square more
pub one_more_set : (g : GridValue) (place n set : ℕ) (sets : List ℕ) → length sets ≡ 9 → n < 9
    → ((k : ℕ) → k < n → CanHold g.size (number_at g (view_cell g.size place k)) (get_or sets k 0))
    → CanHold g.size (number_at g (view_cell g.size place n)) set
    → (k : ℕ) → k < n + 1 → CanHold g.size (number_at g (view_cell g.size place k)) (get_or (slice_set sets n set) k 0)
one_more_set g place n set sets room inside each here k low = elim (cases_eq k n) [
  | inl same ↦ rw same (rw (get_or-set_same sets n set 0 (omega arith)) here)
  | inr other ↦ rw (get_or-set_other sets n k set 0 other) (each k (omega arith))
]

-- the clue is broken just where its line has no filling
pub clue_broken : (v : TowersValue) (g : GridValue) (place : ℕ) (sets : List ℕ) → g.size ≡ v.size → g.size ≤ 9 → AreSetsFrom g place sets
    → IsBroken g (clue_demand v place) ↔ (((line : List ℕ) × IsFilling (take g.size sets) (clue_of v place) line) → ⊥)
clue_broken v g place sets size small are =
    let sets_are = clue_sets v g place sets size small are in (
      λ broken f.
          let filling = f.1 in
          broken f.0 (filling_from_start f.0 sets_are filling.start filling.whole)
          (eq-eqb (seen f.0) (clue_of v place) filling.shown),
      λ none filled h says.
          let start = start_from_filling filled sets_are h in
          none (filled, record { start = start.0; whole = start.1; shown = eqb-true (seen filled) (clue_of v place) says }),
    )

-- what is broken at an edge place is its clue, where there is one
pub edge_broken : (v : TowersValue) (g : GridValue) (place : ℕ)
    → IsBrokenAt (towers_demand v) g (Edge place) ↔ ((0 < clue_of v place) × IsBroken g (clue_demand v place))
edge_broken v g place = (
  λ h.
      let (d, says, broken) = h in
      let (clued, is) = demanded v place d says in (clued, subst (IsBroken g) (sym is) broken),
  λ h. (clue_demand v place, rw (lt-ltb 0 (clue_of v place) h.0) refl, h.1),
)

-- if a test says whether the clue's line has a filling, its negation says whether the clue is broken
pub clue_told : (v : TowersValue) (g : GridValue) (place : ℕ) (sets : List ℕ) (b : Bool) → g.size ≡ v.size → g.size ≤ 9
    → AreSetsFrom g place sets → 0 < clue_of v place
    → IsTrue b ↔ ((line : List ℕ) × IsFilling (take g.size sets) (clue_of v place) line)
    → IsTrue (not b) ↔ ((0 < clue_of v place) × IsBroken g (clue_demand v place))
clue_told v g place sets b size small are clued told =
    let broken = clue_broken v g place sets size small are in (
      λ e. (clued, broken.1 (λ f. both_ways b (not-true b e) (told.1 f))),
      λ h. elim (cases_Bool b) [
        | inl is ↦ absurd (broken.0 h.1 (told.0 is))
        | inr isnt ↦ not_from_false b isnt
      ],
    )

-- a test of whether a clue is broken is one of whether its edge place is a broken spot
pub edge_told : (v : TowersValue) (g : GridValue) (spot : Spot) (place : ℕ) (b : Bool) → spot ≡ Edge place
    → IsTrue b ↔ ((0 < clue_of v place) × IsBroken g (clue_demand v place)) → IsTrue b ↔ IsBrokenAt (towers_demand v) g spot
edge_told v g spot place b is told =
    let same = edge_broken v g place in
    rw is (λ e. same.1 (told.0 e), λ h. told.1 (same.0 h))
