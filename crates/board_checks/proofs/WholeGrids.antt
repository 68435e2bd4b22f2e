-- A grid with an error has no completion, and a full one without any is a solution.
use Rattle.std.proofs.lemmas.Bool.Decides.{nat_tests}
use Rattle.std.proofs.Common.{◌≡◌, ◌↔◌, ℕ, ◌*◌, ◌<◌, false, Option, Some, List, length, get_or, slice_index_or, inl, inr, refl, sym, ap, ◌∙◌, arith}
use Rattle.std.specs.Bool.{IsTrue}
use Rattle.std.proofs.lemmas.Bool.{both_ways, true_from_ne_false}
use Rattle.std.proofs.lemmas.Grind.{same_number_lists}
use Rattle.std.proofs.lemmas.List.{get_or-map, length-map}
use Rattle.std.proofs.lemmas.List.FromFn.{get_or-map-range_with_len}
use Rattle.latin_board.specs.Squares.{GridValue, IsGrid, IsFull, HasEachOnce, number_at}
use Rattle.latin_board.specs.Lines.{line_cell, line_of}
use Rattle.latin_board.proofs.LatinLines.{latin_from_lines, latin_full, line_cell_inside, length-line_of, peers_differ}
use Rattle.latin_board.proofs.Numbers.{number_within}
use Rattle.latin_board.proofs.PeerLines.{line_peers}
use Rattle.trail_solver.specs.Completions.{Completes}
use Rattle.trail_solver.specs.Puzzles.{Puzzle, Solves, HoldsGivens}
use Rattle.board_checks.specs.declared.spot.Spot.{Spot}
use Rattle.board_checks.specs.declared.spot.Spot.TheVariants.{Edge, RightOf, Below}
use Rattle.board_checks.specs.Demands.{Demand, IsOfPeers, IsFillingIn, IsRepeated, numbers_of}
use Rattle.board_checks.specs.Spots.{IsBrokenAt, MeetsAll}
use Rattle.board_checks.specs.Errors.{ErrorsValue, has_repeated, has_broken, HasError}
use Rattle.board_checks.proofs.LineNumbers.{each_once}

-- what the laws of `Demands` say of one puzzle
pub record AreDemandsOf (p : Puzzle) (demand : Spot → Option Demand) : Type 0 where
  pub lines : (spot : Spot) (d : Demand) → demand spot ≡ Some d → IsOfPeers p.size d
  pub all : (g : GridValue) → IsGrid g → IsFull g → g.size ≡ p.size → IsTrue (p.meets g) ↔ MeetsAll demand g

-- the number at a place of a demand's line is the grid's number at the square there
number_of : (g : GridValue) (d : Demand) (k e : ℕ) → k < length d.cells → get_or (numbers_of g d) k e ≡ number_at g (get_or d.cells k 0)
number_of g d k e low = get_or-map (number_at g) d.cells k 0 e low

-- ---- what a completion keeps

-- a grid that has a completion repeats no number
pub never_repeated : (p : Puzzle) (g h : GridValue) (cell : ℕ) → g.size ≡ p.size → Completes p g h → IsRepeated g cell → ⊥
never_repeated p g h cell size c r = grind (arith, nat_tests, peers_differ)

-- a completion fills in each demand's line, and meets it
completion_fills : (p : Puzzle) (g h : GridValue) (d : Demand) → g.size ≡ p.size → Completes p g h → IsOfPeers p.size d
    → IsFillingIn g.size (numbers_of g d) (numbers_of h d)
completion_fills p g h d size c on =
    let s = c.0 in
    let mine : length (numbers_of g d) ≡ length d.cells = length-map d.cells (number_at g) in
    let other : length (numbers_of h d) ≡ length d.cells = length-map d.cells (number_at h) in
    let one : h.size ≡ g.size = s.same_size ∙ sym size in
    let full = latin_full h s.latin in
    let inside_g = λ (k : ℕ) (low : k < length d.cells). rw (← size) at (on.inside k 0 low) in
    let inside_h = λ (k : ℕ) (low : k < length d.cells). rw (← s.same_size) at (on.inside k 0 low) in
    record {
      same_length = other ∙ sym mine;
      keeps = λ k low some.
          let within : k < length d.cells = omega (arith, mine) in
          rw (number_of g d k 0 within, number_of h d k 0 within)
          (c.1 (get_or d.cells k 0) (inside_g k within) (rw (number_of g d k 0 within) at some));
      within = λ k e low.
          let within : k < length d.cells = omega (arith, other) in
          rw (number_of h d k e within)
          (full.each (get_or d.cells k 0) (inside_h k within), omega (arith, number_within h s.is_grid (get_or d.cells k 0) (inside_h k within)));
      apart = λ i j e order low.
          let second : j < length d.cells = omega (arith, other) in
          let first : i < length d.cells = omega arith in
          let peers = rw (← s.same_size) at (on.peers i j 0 order second) in
          rw (number_of h d i e first, number_of h d j e second) (peers_differ h s.is_grid s.latin _ _ peers);
    }

-- a grid that has a completion breaks no demand
pub never_broken : (p : Puzzle) (demand : Spot → Option Demand) (g h : GridValue) (spot : Spot) → AreDemandsOf p demand
    → g.size ≡ p.size → Completes p g h → IsBrokenAt demand g spot → ⊥
never_broken p demand g h spot laws size c (d, demanded, broken) =
    let s = c.0 in
    let met = (laws.all h s.is_grid (latin_full h s.latin) s.same_size).0 s.clues spot d demanded in
    broken (numbers_of h d) (completion_fills p g h d size c (laws.lines spot d demanded)) met

-- ---- a full grid

-- a full line without a repeated number has each number once
full_line : (g : GridValue) (line : ℕ) → IsGrid g → IsFull g → ((cell : ℕ) → IsRepeated g cell → ⊥) → line < 2 * g.size
    → HasEachOnce g.size (line_of g line)
full_line g line valid full none below =
    let w = g.size in
    let number = λ (k : ℕ). number_at g (line_cell w line k) in
    let count = length-line_of g line in
    let at = λ (k e : ℕ) (low : k < w). get_or-map-range_with_len number 0 w k k e low (omega arith) in
    each_once w (line_of g line) count
    (λ k e low.
    let within : k < w = omega (arith, count) in
    let inside = line_cell_inside w line k below within in
    rw (at k e within) (full.each (line_cell w line k) inside, number_within g valid (line_cell w line k) inside))
    (λ i j e order low.
    let second : j < w = omega (arith, count) in
    let first : i < w = omega arith in
    rw (at i e first, at j e second) (λ same. none (line_cell w line i) (record {
      filled = full.each (line_cell w line i) (line_cell_inside w line i below first);
      other = line_cell w line j;
      peers = line_peers w line i j below first second (λ one. omega arith);
      same = sym same;
    })))

-- a full line is its own filling
own_filling : (g : GridValue) (d : Demand) (filled : List ℕ) → IsFull g → IsOfPeers g.size d → IsFillingIn g.size (numbers_of g d) filled
    → filled ≡ numbers_of g d
own_filling g d filled full on h = grind (arith, nat_tests, same_number_lists, length-map, number_of)

-- a full grid that breaks no demand meets all demands
full_met : (p : Puzzle) (demand : Spot → Option Demand) (g : GridValue) → AreDemandsOf p demand → g.size ≡ p.size → IsFull g
    → ((spot : Spot) → IsBrokenAt demand g spot → ⊥) → MeetsAll demand g
full_met p demand g laws size full none spot d e =
    let on : IsOfPeers g.size d = rw size (laws.lines spot d e) in
    true_from_ne_false (d.says (numbers_of g d)) (λ unmet.
    none spot (
      d,
      e,
      λ filled h says.
          both_ways (d.says filled) (ap d.says (own_filling g d filled full on h) ∙ unmet) says,
    ))

-- a full grid with the puzzle's givens and without errors is a solution
pub unerring_solves : (p : Puzzle) (demand : Spot → Option Demand) (g : GridValue) → AreDemandsOf p demand → g.size ≡ p.size
    → IsGrid g → IsFull g → HoldsGivens p g
    → ((cell : ℕ) → IsRepeated g cell → ⊥) → ((spot : Spot) → IsBrokenAt demand g spot → ⊥) → Solves p g
unerring_solves p demand g laws size valid full givens apart none = record {
  is_grid = valid;
  same_size = size;
  latin = latin_from_lines g (λ line below. full_line g line valid full apart below);
  givens = givens;
  clues = (laws.all g valid full size).1 (full_met p demand g laws size full none);
}

-- ---- what is found

-- the answers at the edge places, on the right of squares and below them are those at all spots
pub at_each_spot : (demand : Spot → Option Demand) (g : GridValue) (e : ErrorsValue)
    → ((place : ℕ) → IsTrue (slice_index_or e.edges place false) ↔ IsBrokenAt demand g (Edge place))
    → ((cell : ℕ) → IsTrue (slice_index_or e.right cell false) ↔ IsBrokenAt demand g (RightOf cell))
    → ((cell : ℕ) → IsTrue (slice_index_or e.below cell false) ↔ IsBrokenAt demand g (Below cell))
    → (spot : Spot) → IsTrue (has_broken e spot) ↔ IsBrokenAt demand g spot
at_each_spot demand g e edges right below spot = grind (arith, nat_tests)

-- the errors of a grid of the puzzle's size, exactly
pub record AreErrorsOf (p : Puzzle) (demand : Spot → Option Demand) (g : GridValue) (e : ErrorsValue) : Type 0 where
  pub size : g.size ≡ p.size
  pub repeated : (cell : ℕ) → IsTrue (has_repeated e cell) ↔ IsRepeated g cell
  pub broken : (spot : Spot) → IsTrue (has_broken e spot) ↔ IsBrokenAt demand g spot

-- a grid with an error has no solution that keeps its numbers
pub errors_wrong : (p : Puzzle) (demand : Spot → Option Demand) (g : GridValue) (e : ErrorsValue) → AreDemandsOf p demand
    → AreErrorsOf p demand g e → HasError e → (h : GridValue) → Completes p g h → ⊥
errors_wrong p demand g e laws found error h c = elim error [
  | inl square ↦ never_repeated p g h square.0 found.size c ((found.repeated square.0).0 square.1)
  | inr spot ↦ never_broken p demand g h spot.0 laws found.size c ((found.broken spot.0).0 spot.1)
]

-- a full grid with the puzzle's givens is a solution exactly if it has no error
pub errors_solved : (p : Puzzle) (demand : Spot → Option Demand) (g : GridValue) (e : ErrorsValue) → AreDemandsOf p demand
    → AreErrorsOf p demand g e → IsGrid g → IsFull g → HoldsGivens p g → (HasError e → ⊥) ↔ Solves p g
errors_solved p demand g e laws found valid full givens = (
  λ none. unerring_solves p demand g laws found.size valid full givens
      (λ cell r. none (inl (cell, (found.repeated cell).1 r))) (λ spot b. none (inr (spot, (found.broken spot).1 b))),
  λ solves error. errors_wrong p demand g e laws found error g (solves, λ cell inside filled. refl),
)
