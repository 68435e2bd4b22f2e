-- The letters of pieces: which of two squares they make the greater, and that no two squares contradict each
-- other where no two neighbours do.
use Rattle.std.proofs.lemmas.Bool.Decides.{nat_tests}
use Rattle.std.proofs.Common.{◌≡◌, ℕ, ◌*◌, ◌<◌, ◌≤◌, true, false, ◌&&◌, List, map, Option, Some, None, refl, sym, ◌∙◌, inl, inr, arith, ◌==◌}
use Rattle.std.specs.Option.{option_map_or}
use Rattle.std.specs.List.{list_any, range_with_len, Contains}
use Rattle.std.proofs.lemmas.Bool.{false≢true, false_from_ne_true, and_parts}
use Rattle.std.proofs.lemmas.List.Folds.{Any-from_list_any, list_any_at}
use Rattle.unequal_game.specs.declared.unequal.direction.Direction.{Direction}
use Rattle.unequal_game.specs.declared.unequal.direction.Direction.TheVariants.{Up, Right, Down, Left}
use Rattle.unequal_game.specs.Unequal.{neighbour}
use Rattle.unequal_game.specs.UnequalText.{Piece, Says, piece_text, directions, says, says_greater, contradicts}
use Rattle.unequal_game.specs.Inner.UnequalPieces.{contradicts_towards}
use Rattle.unequal_game.specs.Laws.RangeTests.{range_some, none_in_range, range_none}
use Rattle.unequal_game.specs.Laws.Neighbours.{IsNext, towards, next_inside}
use Rattle.unequal_game.specs.Laws.Letters.{says_contains, contains_says}

-- the list of all directions has each direction
pub all_has : (d : Direction) → Contains directions d
all_has Up = (0, omega arith, refl)
all_has Right = (1, omega arith, refl)
all_has Down = (2, omega arith, refl)
all_has Left = (3, omega arith, refl)

points_to : (o : Option ℕ) (b : ℕ) → option_map_or (λ c. c == b) o false ≡ true → o ≡ Some b
points_to o b e = grind (arith, nat_tests)

-- a square is said to be greater than another by a letter in the direction of that one
said_by : (w : ℕ) (pieces : List (List ℕ)) (a b : ℕ) → says_greater w pieces a b ≡ true
    → (d : Direction) × (says pieces a d ≡ true) × (neighbour w a d ≡ Some b)
said_by w pieces a b e =
    let (place, d, inside, here, passes) =
    Any-from_list_any (λ d. says pieces a d && option_map_or (λ c. c == b) (neighbour w a d) false) directions e in
    let (letter, points) = and_parts (says pieces a d) (option_map_or (λ c. c == b) (neighbour w a d) false) passes in
    (d, letter, points_to (neighbour w a d) b points)

said : (w : ℕ) (pieces : List (List ℕ)) (a b : ℕ) (d : Direction) → says pieces a d ≡ true → neighbour w a d ≡ Some b
    → says_greater w pieces a b ≡ true
said w pieces a b d letter points = grind (arith, nat_tests, all_has, list_any_at)

-- a letter says of two squares which is the greater exactly where the test finds one
pub says_tested : (w : ℕ) (pieces : List Piece) (a b : ℕ) → Says w pieces a b
    → says_greater w (map piece_text pieces) a b ≡ true
says_tested w pieces a b h =
    said w (map piece_text pieces) a b h.direction (contains_says pieces a h.direction h.letter) h.points

pub tested_says : (w : ℕ) (pieces : List Piece) (a b : ℕ) → says_greater w (map piece_text pieces) a b ≡ true
    → Says w pieces a b
tested_says w pieces a b e = grind (arith, nat_tests, said_by, says_contains)

-- ---- squares that contradict each other

-- pieces that say of no two squares that each is greater contradict nowhere
pub never_contradict : (w : ℕ) (pieces : List (List ℕ))
    → ((a b : ℕ) → a < w * w → says_greater w pieces a b ≡ true → says_greater w pieces b a ≡ true → ⊥)
    → contradicts w pieces ≡ false
unfolding contradicts
never_contradict w pieces apart =
    range_none _ 0 (w * w) (λ a low a_in. range_none _ 0 (w * w) (λ b low b_in.
    false_from_ne_true (says_greater w pieces a b && says_greater w pieces b a) (λ both.
    let parts = and_parts (says_greater w pieces a b) (says_greater w pieces b a) both in
    apart a b (omega arith) parts.0 parts.1)))

pub contradict_never : (w : ℕ) (pieces : List (List ℕ)) (a b : ℕ) → contradicts w pieces ≡ false → a < w * w → b < w * w
    → (says_greater w pieces a b && says_greater w pieces b a) ≡ false
unfolding contradicts
contradict_never w pieces a b agree a_in b_in =
    none_in_range _ 0 (w * w) b (none_in_range _ 0 (w * w) a agree (omega arith) (omega arith)) (omega arith)
    (omega arith)

-- where no square contradicts its right or its lower neighbour, no two squares do
pub neighbours_agree : (w : ℕ) (pieces : List (List ℕ)) → 3 ≤ w
    → list_any (contradicts_towards w pieces Right) (range_with_len 0 (w * w)) ≡ false
    → list_any (contradicts_towards w pieces Down) (range_with_len 0 (w * w)) ≡ false → contradicts w pieces ≡ false
neighbours_agree w pieces small right below = never_contradict w pieces (λ a b inside first second.
    let (d, letter, points) = said_by w pieces a b first in
    elim (towards w a b d small inside points) [
      | inl next ↦ apart a b next first second
      | inr next ↦ apart b a next second first
    ])
  where
    apart : (a b : ℕ) → IsNext w a b → says_greater w pieces a b ≡ true → says_greater w pieces b a ≡ true → ⊥
    apart a b next first second = elim next.points [
      | inl points ↦ none a b Right points
          (none_in_range (contradicts_towards w pieces Right) 0 (w * w) a right (omega arith)
          (omega (arith, next.inside))) first second
      | inr points ↦ none a b Down points
          (none_in_range (contradicts_towards w pieces Down) 0 (w * w) a below (omega arith)
          (omega (arith, next.inside))) first second
    ]
      where
        none : (a b : ℕ) (d : Direction) → neighbour w a d ≡ Some b → contradicts_towards w pieces d a ≡ false
            → says_greater w pieces a b ≡ true → says_greater w pieces b a ≡ true → ⊥
        none a b d points agree first second =
            let both : contradicts_towards w pieces d a ≡ true = rw (points, first, second) refl in
            false≢true (sym agree ∙ both)

-- if a square and a neighbour contradict each other, some two squares do
pub squares_contradict : (w : ℕ) (pieces : List (List ℕ)) (cell : ℕ) (d : Direction) → 3 ≤ w → cell < w * w
    → contradicts_towards w pieces d cell ≡ true → contradicts w pieces ≡ true
unfolding contradicts
squares_contradict w pieces cell d small inside both =
    elim (neighbour w cell d) as
    (λ o. neighbour w cell d ≡ o
    → option_map_or (λ b. says_greater w pieces cell b && says_greater w pieces b cell) o false ≡ true
    → contradicts w pieces ≡ true) [
      | None ↦ λ e none. absurd (false≢true none)
      | Some b ↦ λ e both.
          let b_in : b < w * w =
          elim (towards w cell b d small inside e)
          [ inl next ↦ next_inside w cell b small next | inr next ↦ next.inside ] in
          range_some _ 0 (w * w) cell (omega arith) (omega arith)
          (range_some _ 0 (w * w) b (omega arith) (omega arith) both)
    ] refl both
