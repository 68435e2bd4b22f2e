-- Tables of answers that are filled in from the front.
use Rattle.std.proofs.lemmas.Bool.Decides.{nat_tests}
use Rattle.std.proofs.Common.{◌≡◌, ◌↔◌, ℕ, zero, suc, ◌+◌, ◌*◌, ◌<◌, ◌≤◌, Bool, true, false, List, [], ◌∷◌, length, get_or, set, replicate, inl, inr, refl, arith}
use Rattle.std.specs.Bool.{IsTrue, beq}
use Rattle.std.specs.List.{list_any}
use Rattle.std.proofs.lemmas.Bool.{cases_lt, false≢true}
use Rattle.std.proofs.Math.Nat.{mul-le-mul_left}
use Rattle.latin_board.specs.declared.grid.TheConstants.{CELLS}
use Rattle.std.proofs.lemmas.List.{get_or_past, get_or-replicate, length-replicate, length-set, get_or-set_same, get_or-set_other}
use Rattle.board_checks.specs.declared.spot.Spot.{Spot}
use Rattle.board_checks.specs.Errors.{ErrorsValue, has_broken}

-- the answers below n say of which numbers P holds, and from n on none is yes
pub record AreTold (n : ℕ) (P : ℕ → Type 0) (found : List Bool) : Type 0 where
  pub room : length found ≡ CELLS
  pub told : (k : ℕ) → k < n → IsTrue (get_or found k false) ↔ P k
  pub rest : (k : ℕ) → n ≤ k → get_or found k false ≡ false

-- at first nothing is told of any entry
pub none_told : (P : ℕ → Type 0) → AreTold 0 P (replicate CELLS false)
none_told P = record {
  room = length-replicate CELLS false;
  told = λ k low. absurd (omega arith);
  rest = λ k low. elim (cases_lt k CELLS) [
    | inl inside ↦ get_or-replicate CELLS k false false inside
    | inr past ↦ get_or_past (replicate CELLS false) k false (omega (arith, length-replicate CELLS false))
  ];
}

-- one entry more is told
pub one_more_told : (P : ℕ → Type 0) (n : ℕ) (b : Bool) (found : List Bool) → n < CELLS → IsTrue b ↔ P n → AreTold n P found
    → AreTold (n + 1) P (set found n b)
one_more_told P n b found inside here h = grind (arith, nat_tests, length-set, get_or-set_same, get_or-set_other)

-- when all entries are told, the table tells of each
pub all_told : (P : ℕ → Type 0) (n : ℕ) (found : List Bool) → AreTold n P found → ((k : ℕ) → P k → k < n)
    → (k : ℕ) → IsTrue (get_or found k false) ↔ P k
all_told P n found h within k = grind (arith, nat_tests)

-- a square of a grid of at most 9 has a place
pub square_in_table : (w cell : ℕ) → w ≤ 9 → cell < w * w → cell < CELLS
square_in_table w cell small inside = grind (arith, nat_tests, mul-le-mul_left)

-- the test of whether some answer is yes is passed exactly if one is, at some place
pub yes_somewhere : (answers : List Bool) → IsTrue (list_any (λ y. beq y true) answers) ↔ ((k : ℕ) × IsTrue (get_or answers k false))
yes_somewhere answers = (there answers, λ h. here answers h.0 h.1)
  where
    there : (answers : List Bool) → list_any (λ y. beq y true) answers ≡ true → (k : ℕ) × (get_or answers k false ≡ true)
    there [] e = absurd (false≢true e)
    there (true ∷ rest) e = (0, refl)
    there (false ∷ rest) e = let later = there rest e in (suc later.0, later.1)

    here : (answers : List Bool) (k : ℕ) → get_or answers k false ≡ true → list_any (λ y. beq y true) answers ≡ true
    here [] k e = absurd (false≢true e)
    here (true ∷ rest) k e = refl
    here (false ∷ rest) zero e = absurd (false≢true e)
    here (false ∷ rest) (suc k) e = here rest k e

-- if nothing is broken at an edge place or on the right of a square, a broken spot is below a square
pub left_below : (e : ErrorsValue) → (((k : ℕ) × IsTrue (get_or e.edges k false)) → ⊥) → (((k : ℕ) × IsTrue (get_or e.right k false)) → ⊥)
    → (spot : Spot) → IsTrue (has_broken e spot) → (k : ℕ) × IsTrue (get_or e.below k false)
left_below e no_edge no_right spot h = grind (arith, nat_tests)
