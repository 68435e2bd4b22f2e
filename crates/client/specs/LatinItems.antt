-- The laws of the items, by those of lists of which only some items are kept.
use Rattle.std.proofs.Common.{◌≡◌, ℕ, zero, ◌*◌, ◌<◌, ◌≤◌, Bool, true, false, ◌&&◌, not, ◌==◌, nat_lt, set, slice_index, refl, arith}
use Rattle.std.proofs.lemmas.Bool.{lt-ltb}
use Rattle.latin_board.specs.Squares.{GridValue, IsGrid, IsLatin, number_at}
use Rattle.latin_board.proofs.LatinLines.{latin_full}
use Rattle.latin_board.proofs.Numbers.{number_within}
use Rattle.trail_solver.specs.Puzzles.{Solves}
use Rattle.clue_rules.specs.Givens.{given_puzzle}
use Rattle.trail_solver.proofs.KeptItems.{entry-kept, kept-all, kept-kept, kept-same, IsGrid-kept, still_asked}
use Rattle.trail_solver.proofs.KeptItems.{none_asked, present_kept, not_positive, kept_number}
use Rattle.trail_solver.proofs.ItemsLost.{kept-but_one}
use Rattle.client.specs.Latin.{items_of, has_given, cut_givens}

-- a given is at most the width
pub valid_given : (p : GridValue) (cell : ℕ) → IsGrid p → cell < p.size * p.size → number_at p cell ≤ p.size
valid_given p cell h inside = number_within p h cell inside

-- a puzzle that is cut is a puzzle
pub cut_valid : (p : GridValue) (keep : ℕ → Bool) → IsGrid p → IsGrid (cut_givens p keep)
cut_valid p keep h = IsGrid-kept p keep 0 h

-- a cut has the givens that were there and are in the set
pub cut_has : (p : GridValue) (keep : ℕ → Bool) (i : ℕ) → has_given (cut_givens p keep) i ≡ (has_given p i && keep i)
cut_has p keep i =
    rw (entry-kept zero keep 0 p.numbers i i (omega arith))
    (present_kept (nat_lt 0) zero refl (keep i) (slice_index p.numbers i))

-- a given of a cut was there
pub cut_given : (p : GridValue) (keep : ℕ → Bool) (cell : ℕ) → 0 < slice_index (cut_givens p keep).numbers cell
    → slice_index (cut_givens p keep).numbers cell ≡ slice_index p.numbers cell
cut_given p keep cell = kept_number keep 0 p.numbers cell

-- to keep every given changes nothing
pub cut_all : (p : GridValue) → cut_givens p (λ i. true) ≡ p
cut_all p = rw (kept-all zero 0 p.numbers) refl

-- a cut of a cut is one cut, to the givens in both sets
pub cut_cut : (p : GridValue) (first second : ℕ → Bool)
    → cut_givens (cut_givens p first) second ≡ cut_givens p (λ i. first i && second i)
cut_cut p first second = rw (kept-kept zero first second 0 p.numbers) refl

-- sets that agree on the givens cut the puzzle alike
pub cut_agrees : (p : GridValue) (a b : ℕ → Bool) → IsGrid p
    → ((i : ℕ) → i < items_of p.size → has_given p i ≡ true → a i ≡ b i) → cut_givens p a ≡ cut_givens p b
cut_agrees p a b h same =
    let kept =
    kept-same zero (nat_lt 0) not_positive a b p.numbers (λ k inside here. same k (omega (arith, h.count)) here) in
    rw kept refl

-- to blank a square is the cut that leaves its given out
pub given_dropped : (old new : GridValue) (i : ℕ) → new.size ≡ old.size → new.numbers ≡ set old.numbers i 0
    → new ≡ cut_givens old (λ j. not (j == i))
given_dropped old new i size numbers =
    let kept = kept-but_one zero 0 i i old.numbers (omega arith) in
    let whole : new
    ≡ record { size = old.size; numbers = set old.numbers i 0 } = λ t. record {
      size = size t;
      numbers = numbers t;
    } in
    rw kept whole

-- a cut loses no solution
pub cut_solved : (p : GridValue) (keep : ℕ → Bool) (g : GridValue) → Solves (given_puzzle p) g
    → Solves (given_puzzle (cut_givens p keep)) g
cut_solved p keep g h = record {
  is_grid = h.is_grid;
  same_size = h.same_size;
  latin = h.latin;
  givens = λ cell inside. still_asked keep 0 p.numbers cell (number_at g cell) (h.givens cell inside);
  clues = refl;
}

-- each Latin square of the width solves the puzzle that is cut down to no given
pub cut_none : (p : GridValue) (g : GridValue) → IsGrid g → IsLatin g → g.size ≡ p.size
    → Solves (given_puzzle (cut_givens p (λ i. false))) g
cut_none p g is_grid latin size = record {
  is_grid = is_grid;
  same_size = size;
  latin = latin;
  givens = λ cell inside. none_asked 0 p.numbers cell (number_at g cell);
  clues = refl;
}

-- the full puzzle has every given
pub full_has : (g : GridValue) (i : ℕ) → IsGrid g → IsLatin g → i < items_of g.size → has_given g i ≡ true
full_has g i is_grid latin inside = lt-ltb 0 (number_at g i) ((latin_full g latin).each i inside)

-- a Latin square solves its full puzzle
pub full_solved : (g : GridValue) → IsGrid g → IsLatin g → Solves (given_puzzle g) g
full_solved g is_grid latin = record {
  is_grid = is_grid;
  same_size = refl;
  latin = latin;
  givens = λ cell inside low. refl;
  clues = refl;
}
