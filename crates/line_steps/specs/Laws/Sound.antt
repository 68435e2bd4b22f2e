-- A value that a reason strikes is in no solution whose numbers are all candidates.
use Rattle.std.proofs.Common.{◌≡◌, ◌≢◌, ℕ, ◌*◌, ◌<◌, ◌≤◌, true, inl, inr, sym, ap, ◌∙◌, subst, arith}
use Rattle.std.proofs.lemmas.Bool.{cases_eq}
use Rattle.number_sets.specs.Sets.{has_number}
use Rattle.latin_board.specs.Squares.{GridValue, IsGrid, IsLatin, number_at}
use Rattle.latin_board.specs.Lines.{line_cell, ArePeers}
use Rattle.latin_board.proofs.LatinLines.{line_cell_inside, line_differs, peers_differ, value_at, latin_full}
use Rattle.latin_board.proofs.Numbers.{number_within}
use Rattle.trail_solver.specs.Candidates.{CandidatesValue, IsWithin}
use Rattle.trail_solver.specs.Puzzles.{Puzzle, Solves, HoldsGivens}
use Rattle.trail_solver.proofs.Pigeonholes.{Injects, none_else}
use Rattle.line_steps.specs.Left.{IsLeft}
use Rattle.line_steps.specs.Reasons.{AllStrikes, IsByGiven, IsByPeer, IsByPlace, IsBySet, Striking}
use Rattle.line_steps.specs.declared.reason.Reason.{Reason}
use Rattle.line_steps.specs.declared.reason.Reason.TheVariants.{Given, Peer, Place, Set}

-- a Latin square of width w whose numbers are all left of the candidates
pub record IsSquareOf (w : ℕ) (c : CandidatesValue) (g : GridValue) : Type 0 where
  pub size : g.size ≡ w
  pub is_grid : IsGrid g
  pub latin : IsLatin g
  pub left : (cell : ℕ) → cell < w * w → IsLeft c cell (number_at g cell)

-- a solution within the candidates is a Latin square whose numbers are all left
pub square_of : (p : Puzzle) (c : CandidatesValue) (g : GridValue) → c.size ≡ p.size → Solves p g → IsWithin c g
    → IsSquareOf p.size c g
square_of p c g size s within = record {
  size = s.same_size;
  is_grid = s.is_grid;
  latin = s.latin;
  left = λ cell inside.
      let here : cell < c.size * c.size = subst (λ (w : ℕ). cell < w * w) (sym size) inside in
      let there : cell < g.size * g.size = subst (λ (w : ℕ). cell < w * w) (sym s.same_size) inside in
      record {
        pair = record {
          inside = here;
          low = (latin_full g s.latin).each cell there;
          high = omega (arith, number_within g s.is_grid cell there, size, s.same_size);
        };
        may = within.each cell here;
      };
}

-- ---- every game

-- what a given strikes is in no solution
pub given_sound : (p : Puzzle) (g : GridValue) (at cell value : ℕ) → HoldsGivens p g → cell < p.size * p.size
    → IsByGiven p at cell value
    → number_at g cell ≢ value
given_sound p g at cell value holds inside h = λ same.
    let here : at < p.size * p.size = subst (λ (i : ℕ). i < p.size * p.size) h.here inside in
    h.apart (sym same ∙ ap (number_at g) h.here ∙ holds at here h.given)

-- a Latin square within the candidates has no value where a lone value strikes it
peer_sound : (w : ℕ) (c : CandidatesValue) (g : GridValue) (by cell value : ℕ) → IsSquareOf w c g
    → IsByPeer w c by cell value
    → number_at g cell ≢ value
peer_sound w c g by cell value s h = λ same.
    let one : number_at g by ≡ value = h.alone (number_at g by) (s.left by h.peers.first) in
    let peers : ArePeers g.size by cell = subst (λ (n : ℕ). ArePeers n by cell) (sym s.size) h.peers in
    peers_differ g s.is_grid s.latin by cell peers (one ∙ sym same)

-- two places of a line of the Latin square have different numbers, by the width of the candidates
differs : (w : ℕ) (c : CandidatesValue) (g : GridValue) → IsSquareOf w c g → (line i j : ℕ) → line < 2 * w → i < w
    → j < w → i ≢ j
    → number_at g (line_cell w line i) ≢ number_at g (line_cell w line j)
differs w c g s =
    let P : ℕ → Type 0 =
    λ n. (line i j : ℕ) → line < 2 * n → i < n → j < n → i ≢ j
    → number_at g (line_cell n line i) ≢ number_at g (line_cell n line j) in
    subst P s.size (line_differs g s.is_grid s.latin)

-- each number of the size stands in some place of each line of the Latin square
stands_at : (w : ℕ) (c : CandidatesValue) (g : GridValue) → IsSquareOf w c g → (line v : ℕ) → line < 2 * w → 1 ≤ v
    → v ≤ w
    → (k : ℕ) × (k < w) × (number_at g (line_cell w line k) ≡ v)
stands_at w c g s =
    let P : ℕ → Type 0 =
    λ n. (line v : ℕ) → line < 2 * n → 1 ≤ v → v ≤ n → (k : ℕ) × (k < n) × (number_at g (line_cell n line k) ≡ v) in
    subst P s.size (value_at g s.latin)

-- a Latin square within the candidates has no value where the last place of another strikes it
place_sound : (w : ℕ) (c : CandidatesValue) (g : GridValue) (line index other cell value : ℕ) → IsSquareOf w c g
    → IsByPlace w c line index other cell value → number_at g cell ≢ value
place_sound w c g line index other cell value s h = λ same.
    let at = stands_at w c g s line other h.line_is h.low h.high in
    let left : IsLeft c (line_cell w line at.0) other =
    subst (λ (v : ℕ). IsLeft c (line_cell w line at.0) v) at.2
    (s.left (line_cell w line at.0) (line_cell_inside w line at.0 h.line_is at.1)) in
    let here : number_at g cell ≡ other =
    ap (number_at g) (h.here ∙ ap (line_cell w line) (sym (h.alone at.0 at.1 left))) ∙ at.2 in
    h.apart (sym same ∙ here)

-- the numbers of the set's squares are as many of its values, so no other square has one of them
set_sound : (w : ℕ) (c : CandidatesValue) (g : GridValue) (line squares values cell value : ℕ) → IsSquareOf w c g
    → IsBySet w c line squares values cell value → number_at g cell ≢ value
set_sound w c g line squares values cell value s h = λ same.
    let f : ℕ → ℕ = λ k. number_at g (line_cell w line k) in
    let small : w ≤ 9 = omega (arith, s.is_grid.largest, s.size) in
    let apart : (i j : ℕ) → i < w → j < w → f i ≡ f j → i ≡ j =
    λ i j first second e. elim (cases_eq i j) [
      | inl one ↦ one
      | inr two ↦ absurd (differs w c g s line i j h.line_is first second two e)
    ] in
    let injects : Injects squares values f = record {
      small = λ i has. omega (arith, h.inside i has, small);
      lands = λ i has. h.among i (f i) has
          (s.left (line_cell w line i) (line_cell_inside w line i h.line_is (h.inside i has)));
      apart = λ i j first second e. apart i j (h.inside i first) (h.inside j second) e;
    } in
    let here : f h.index ≡ value = ap (number_at g) (sym h.here) ∙ same in
    none_else squares h.index values f injects h.same (omega (arith, h.index_is, small)) h.outside
    (λ i has e. apart i h.index (h.inside i has) h.index_is e)
    (subst (λ (v : ℕ). has_number values v ≡ true) (sym here) h.one)

-- what is struck is in no solution within the candidates, where that holds for a game's own reasons
pub all_sound : (p : Puzzle) (Own : Striking)
    → ((c : CandidatesValue) (reason : Reason) (cell value : ℕ) (g : GridValue) → c.size ≡ p.size → Solves p g
    → IsWithin c g → Own c reason cell value → number_at g cell ≢ value)
    → (c : CandidatesValue) (reason : Reason) (cell value : ℕ) (g : GridValue) → c.size ≡ p.size → Solves p g
    → IsWithin c g → cell < p.size * p.size → AllStrikes p Own c reason cell value → number_at g cell ≢ value
all_sound p Own own c (Given at) cell value g size solved within inside h =
    given_sound p g at cell value solved.givens inside h
all_sound p Own own c (Peer by) cell value g size solved within inside h =
    peer_sound p.size c g by cell value (square_of p c g size solved within) h
all_sound p Own own c (Place line index other) cell value g size solved within inside h =
    place_sound p.size c g line index other cell value (square_of p c g size solved within) h
all_sound p Own own c (Set line squares values) cell value g size solved within inside h =
    set_sound p.size c g line squares values cell value (square_of p c g size solved within) h
all_sound p Own own c reason cell value g size solved within inside h =
    own c reason cell value g size solved within h
