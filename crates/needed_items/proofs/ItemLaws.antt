-- The laws of `Rules` on items, as a record that lemmas take, and what they say of puzzles without one.
use Rattle.std.proofs.Common.{arith}
use Rattle.std.proofs.lemmas.Bool.Decides.{nat_tests}
use Rattle.std.proofs.Common.{◌≡◌, ℕ, ◌*◌, ◌<◌, Bool, true, false, not, ◌&&◌, refl, ap}
use Rattle.std.proofs.lemmas.Bool.{eq-eqb}
use Rattle.latin_board.specs.Squares.{GridValue, IsGrid, IsLatin, number_at}
use Rattle.trail_solver.specs.Puzzles.{Solves}
use Rattle.trail_solver.specs.declared.rules.Rules.{Ghosts}
use Rattle.trail_solver.specs.contracts.rules.Rules.TheBound.{Met}
use Rattle.needed_items.specs.Needed.{all_but}

-- what a game owes of its items: how they are cut, and what the full puzzle of a grid has
pub record ItemLaws {P : Type 0} (f : Ghosts P) : Type 0 where
  pub cut_valid : (p : P) (keep : ℕ → Bool) → f.valid p → f.valid (f.cut p keep)
  pub cut_size : (p : P) (keep : ℕ → Bool) → (f.puzzle (f.cut p keep)).size ≡ (f.puzzle p).size
  pub givens_cut : (p : P) (keep : ℕ → Bool) (cell : ℕ) → 0 < (f.puzzle (f.cut p keep)).given cell
      → (f.puzzle (f.cut p keep)).given cell ≡ (f.puzzle p).given cell
  pub cut_has : (p : P) (keep : ℕ → Bool) (i : ℕ) → f.valid p → i < f.items_of (f.puzzle p).size
      → f.has (f.cut p keep) i ≡ (f.has p i && keep i)
  pub cut_all : (p : P) → f.valid p → f.cut p (λ i. true) ≡ p
  pub cut_cut : (p : P) (first second : ℕ → Bool) → f.valid p → f.cut (f.cut p first) second ≡ f.cut p (λ i. first i && second i)
  pub cut_agrees : (p : P) (a b : ℕ → Bool) → f.valid p
      → ((i : ℕ) → i < f.items_of (f.puzzle p).size → f.has p i ≡ true → a i ≡ b i) → f.cut p a ≡ f.cut p b
  pub cut_solved : (p : P) (keep : ℕ → Bool) (g : GridValue) → f.valid p → Solves (f.puzzle p) g → Solves (f.puzzle (f.cut p keep)) g
  pub full_valid : (g : GridValue) → IsGrid g → IsLatin g → f.valid (f.full_of g)
  pub full_size : (g : GridValue) → IsGrid g → IsLatin g → (f.puzzle (f.full_of g)).size ≡ g.size
  pub full_given : (g : GridValue) (cell : ℕ) → IsGrid g → IsLatin g → cell < g.size * g.size
      → (f.puzzle (f.full_of g)).given cell ≡ number_at g cell
  pub full_has : (g : GridValue) (i : ℕ) → IsGrid g → IsLatin g → i < f.items_of g.size → f.has (f.full_of g) i ≡ true
  pub full_solved : (g : GridValue) → IsGrid g → IsLatin g → Solves (f.puzzle (f.full_of g)) g

-- the laws of a type that has `Rules`: the other names in braces are the kit's, the world that code runs in and the tables of methods
pub laws_of : {M : Type 1} {U logic memory running routines type f methods clone cloning : _}
    → Met {M = M} {𝓤 = U} logic memory running routines type f methods clone cloning → ItemLaws f
laws_of met = grind (arith, nat_tests)

-- `all_but` leaves out the item itself
pub all_but_itself : (i : ℕ) → all_but i i ≡ false
all_but_itself i = ap not (eq-eqb i i refl)
