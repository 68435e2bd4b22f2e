-- The signs of the full puzzle of a grid.
use Rattle.std.proofs.lemmas.Bool.Decides.{nat_tests}
use Rattle.std.proofs.Common.{◌≡◌, ◌↔◌, ℕ, ◌<◌, ◌≤◌, List, inl, inr, arith}
use Rattle.latin_board.specs.Squares.{GridValue, IsGrid, number_at}
use Rattle.unequal_game.specs.declared.unequal.direction.Direction.TheVariants.{Right, Down}
use Rattle.unequal_game.specs.declared.unequal.sign.Sign.{Sign}
use Rattle.unequal_game.specs.declared.unequal.sign.Sign.TheVariants.{FirstGreater, SecondGreater}
use Rattle.unequal_game.specs.Unequal.{IsGreater, AreNeighbours, sign_of, sign_in_grid, full_unequal}
use Rattle.unequal_game.specs.Inner.UnequalFields.{HoldsSignsOf, unequal_value}
use Rattle.unequal_game.specs.Laws.Neighbours.{neighbours_next, next_towards}
use Rattle.unequal_game.specs.Laws.Signs.{signed_greater}

first_sign : (x y : ℕ) → y < x → sign_of x y ≡ FirstGreater
first_sign x y h = grind (arith, nat_tests)

second_sign : (x y : ℕ) → x < y → sign_of x y ≡ SecondGreater
second_sign x y h = grind (arith, nat_tests)

-- the greater of two numbers is the one that their sign says

sign_first : (x y : ℕ) → sign_of x y ≡ FirstGreater → y < x
sign_first x y e = grind (arith, nat_tests)

sign_second : (x y : ℕ) → sign_of x y ≡ SecondGreater → x < y
sign_second x y e = grind (arith, nat_tests)

-- the full puzzle says of each two neighbours which one the grid has greater
pub full_greater : (g : GridValue) (a b : ℕ) → IsGrid g
    → IsGreater (full_unequal g) a b ↔ (AreNeighbours g.size a b × (number_at g b < number_at g a))
full_greater g a b is_grid =
    let small : 3 ≤ g.size = is_grid.smallest in
    let rule = signed_greater g.size (sign_in_grid g) g.numbers a b is_grid in (
      λ h. elim (rule.0 h) [
        | inl up ↦ ((next_towards g.size a b small up.0).0, sign_first (number_at g a) (number_at g b) up.1)
        | inr down ↦ ((next_towards g.size b a small down.0).1, sign_second (number_at g b) (number_at g a) down.1)
      ],
      λ h. elim (neighbours_next g.size a b small h.0) [
        | inl next ↦ rule.1 (inl (next, first_sign (number_at g a) (number_at g b) h.1))
        | inr next ↦ rule.1 (inr (next, second_sign (number_at g b) (number_at g a) h.1))
      ],
    )

-- tables that hold the signs of a grid say of each two neighbours which one the grid has greater
pub full_signs : (g : GridValue) (right below : List Sign) → IsGrid g → HoldsSignsOf g.size (sign_in_grid g) Right right
    → HoldsSignsOf g.size (sign_in_grid g) Down below → (a b : ℕ)
    → IsGreater (unequal_value right below g) a b ↔ (AreNeighbours g.size a b × (number_at g b < number_at g a))
full_signs g right below is_grid rights lowers a b = rw (rights.front, lowers.front) (full_greater g a b is_grid)
