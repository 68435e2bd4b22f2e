-- Equality of grids and of boards as tests that compute, and that they decide it.
use Rattle.std.specs.Prelude.{◌≡◌, Bool, ◌==◌, ◌&&◌}
use Rattle.std.specs.Bool.{Decides, beq}
use Rattle.std.specs.Cmp.Lexicographic.{pointwise, bytes_decides}
use Rattle.std.specs.Cmp.{booleans_Decides}
use Rattle.std.proofs.Common.{refl, subst}
use Rattle.std.proofs.lemmas.Bool.Decides.{Decides-like, Decides-and, Decides-eqb}
use Rattle.latin_board.specs.Squares.{GridValue}
use Rattle.latin_board.specs.Boards.{BoardValue}

-- whether two grids are the same, by their sizes and numbers
abbrev pub same_grid : GridValue → GridValue → Bool
same_grid a b = a.size == b.size && pointwise ◌==◌ a.numbers b.numbers

-- whether two boards are the same, by all that they have
abbrev pub same_board : BoardValue → BoardValue → Bool
same_board a b =
    a.size == b.size && pointwise ◌==◌ a.numbers b.numbers && pointwise ◌==◌ a.marks b.marks
    && beq a.completed b.completed && beq a.cheated b.cheated && a.done == b.done

-- the test of two grids answers whether they are equal
pub same_grid_decides : (a b : GridValue) → Decides (same_grid a b) (a ≡ b)
same_grid_decides a b =
    Decides-like (same_grid a b) (λ h i. record { size = h.0 i; numbers = h.1 i })
    (λ same.
    let Same : GridValue → Type 0 = λ g. (a.size ≡ g.size) × (a.numbers ≡ g.numbers) in
    subst Same same (refl, refl))
    (Decides-and _ _ (Decides-eqb a.size b.size) (bytes_decides a.numbers b.numbers))

-- the test of two boards answers whether they are equal
pub same_board_decides : (a b : BoardValue) → Decides (same_board a b) (a ≡ b)
same_board_decides a b =
    Decides-like (same_board a b)
    (λ h i. record {
      size = h.0.0.0.0.0 i;
      numbers = h.0.0.0.0.1 i;
      marks = h.0.0.0.1 i;
      completed = h.0.0.1 i;
      cheated = h.0.1 i;
      done = h.1 i;
    })
    (λ same.
    let Same : BoardValue → Type 0 = λ v.
    (((((a.size ≡ v.size) × (a.numbers ≡ v.numbers)) × (a.marks ≡ v.marks)) × (a.completed ≡ v.completed))
    × (a.cheated ≡ v.cheated)) × (a.done ≡ v.done) in
    subst Same same (((((refl, refl), refl), refl), refl), refl))
    (Decides-and _ _ (Decides-and _ _ (Decides-and _ _ (Decides-and _ _ (Decides-and _ _
    (Decides-eqb a.size b.size) (bytes_decides a.numbers b.numbers)) (bytes_decides a.marks b.marks))
    (booleans_Decides a.completed b.completed)) (booleans_Decides a.cheated b.cheated)) (Decides-eqb a.done b.done))
