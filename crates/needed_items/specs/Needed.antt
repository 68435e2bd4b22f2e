-- Which items a puzzle needs, over the ghost members of `Rules`.
use Rattle.std.specs.Prelude.{◌≡◌, ℕ, ◌<◌, ◌==◌, Bool, not, IsTrue}
use Rattle.latin_board.specs.Squares.{GridValue}
use Rattle.trail_solver.specs.Puzzles.{Solves}
use Rattle.trail_solver.specs.Solutions.{IsOnlySolution}
use Rattle.trail_solver.specs.declared.rules.Rules.{Ghosts}

-- all items but one
abbrev pub all_but : ℕ → ℕ → Bool
all_but i j = not (j == i)

-- the puzzle has the item, and passes a test without it
pub record IsSpare {P : Type 0} (f : Ghosts P) (Passes : P → Type 0) (p : P) (i : ℕ) : Type 0 where
  pub there : IsTrue (f.has p i)
  pub passes : Passes (f.cut p (all_but i))

-- the grid is the only solution
abbrev pub HasOnly : {P : Type 0} → Ghosts P → GridValue → P → Type 0
HasOnly f g p = IsOnlySolution (f.puzzle p) g

-- some grid is a solution
abbrev pub HasSome : {P : Type 0} → Ghosts P → P → Type 0
HasSome f p = (g : GridValue) × Solves (f.puzzle p) g

-- the second puzzle has only items of the first, as they are there; it passes the test, and none of its items is spare
pub record IsThinned {P : Type 0} (f : Ghosts P) (Passes : P → Type 0) (p q : P) : Type 0 where
  pub is_cut : q ≡ f.cut p (f.has q)
  pub valid : f.valid q
  pub passes : Passes q
  pub needed : (i : ℕ) → i < f.items_of (f.puzzle q).size → IsSpare f Passes q i → ⊥
