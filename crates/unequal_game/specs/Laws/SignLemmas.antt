-- The signs of a puzzle as a grid holds them.
use Rattle.std.proofs.Common.{arith, ◌≡◌, ◌↔◌, Bool, true, inl, inr}
use Rattle.std.proofs.lemmas.Bool.Decides.{nat_tests}
use Rattle.std.specs.Bool.{IsTrue}
use Rattle.std.proofs.lemmas.Bool.{ltb-true}
use Rattle.latin_board.specs.Squares.{GridValue, number_at}
use Rattle.unequal_game.specs.Unequal.{UnequalValue, IsUnequal, holds_signs, HoldsSigns}
use Rattle.unequal_game.specs.Laws.Signs.{greater_next, sign_held, each_sign_held}

-- a grid that holds every sign has the greater number wherever the puzzle says so
pub signs_held : (v : UnequalValue) (g : GridValue) → IsUnequal v → holds_signs v g ≡ true → HoldsSigns v g
signs_held v g valid h = record {
  each = λ a b greater. elim (greater_next v a b valid greater) [
    | inl up ↦ ltb-true (number_at g b) (number_at g a) (rw up.1 at (sign_held v g a b h up.0))
    | inr down ↦ ltb-true (number_at g b) (number_at g a) (rw down.1 at (sign_held v g b a h down.0))
  ];
}

-- where a grid has the greater number wherever the puzzle says so, the test of the signs is passed
pub held_signs : (v : UnequalValue) (g : GridValue) → HoldsSigns v g → holds_signs v g ≡ true
held_signs v g h = grind (arith, nat_tests, each_sign_held)

pub holds_tested : (v : UnequalValue) (g : GridValue) (t : Bool) → IsUnequal v → t ≡ holds_signs v g → IsTrue t ↔ HoldsSigns v g
holds_tested v g t valid value = rw value (signs_held v g valid, held_signs v g)
