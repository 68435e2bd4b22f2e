-- A sign is broken where the square of the greater number can hold none that is greater than the least of the other.
use Rattle.std.proofs.lemmas.Bool.Decides.{nat_tests}
use Rattle.std.proofs.Common.{◌≡◌, ◌≢◌, ◌↔◌, ℕ, ◌+◌, ◌*◌, ◌<◌, ◌≤◌, true, [], ◌∷◌, length, get_or, inl, inr, refl, sym, arith, subst}
use Rattle.std.proofs.lemmas.Bool.{cases_lt, lt-ltb, ltb-true}
use Rattle.std.proofs.lemmas.Option.{cond_some}
use Rattle.latin_board.specs.Squares.{GridValue, IsGrid, number_at}
use Rattle.latin_board.proofs.Numbers.{number_within}
use Rattle.unequal_game.specs.declared.unequal.sign.Sign.{Sign}
use Rattle.unequal_game.specs.declared.unequal.sign.Sign.TheVariants.{FirstGreater, SecondGreater}
use Rattle.unequal_game.specs.Unequal.{UnequalValue, IsUnequal, IsGreater, sign_between, is_present}
use Rattle.unequal_game.specs.Laws.Neighbours.{next_order, next_inside}
use Rattle.unequal_game.specs.Laws.Signs.{said_next, greater_next}
use Rattle.board_checks.specs.declared.spot.Spot.TheVariants.{RightOf, Below}
use Rattle.board_checks.specs.Demands.{IsFillingIn, IsBroken}
use Rattle.board_checks.specs.Spots.{IsBrokenAt}
use Rattle.board_checks.specs.Games.{sign_demand, unequal_demand}
use Rattle.board_checks.specs.Inner.SignEnds.{most_of, least_of, NeverExceeds, IsSignBroken}
use Rattle.board_checks.specs.Laws.TwoSquares.{two_all, two_pairs}
use Rattle.board_checks.specs.Laws.UnequalDemands.{present_said, right_demand, below_demand}

-- ---- one end of a sign

-- the greatest number that a square can hold is from 1 to w, and its own number if it has one
most_within : (w n : ℕ) → 3 ≤ w → n ≤ w → (1 ≤ most_of w n) × (most_of w n ≤ w) × (0 < n → most_of w n ≡ n)
most_within w n small within = grind (arith, nat_tests)

-- the least number that a square can hold is from 1 to w, and its own number if it has one
least_within : (w n : ℕ) → 3 ≤ w → n ≤ w → (1 ≤ least_of n) × (least_of n ≤ w) × (0 < n → least_of n ≡ n)
least_within w n small within = grind (arith, nat_tests)

-- a number that comes into a square is at most the greatest that the square can hold
below_most : (w n x : ℕ) → x ≤ w → (0 < n → x ≡ n) → x ≤ most_of w n
below_most w n x within keeps = grind (arith, nat_tests)

-- a number that comes into a square is at least the least that the square can hold
above_least : (n x : ℕ) → 1 ≤ x → (0 < n → x ≡ n) → least_of n ≤ x
above_least n x low keeps = grind (arith, nat_tests)

-- ---- the fillings of two squares

-- two different numbers that two squares can hold are a filling of them
pair_filling : (w a b x y : ℕ) → (1 ≤ x) × (x ≤ w) × (0 < a → x ≡ a) → (1 ≤ y) × (y ≤ w) × (0 < b → y ≡ b) → x ≢ y
    → IsFillingIn w (a ∷ b ∷ []) (x ∷ y ∷ [])
pair_filling w a b x y h here apart = grind (arith, nat_tests, two_all, two_pairs)

-- ---- a sign

-- a sign for its first square is broken exactly if the first can't hold more than the second must
first_broken : (g : GridValue) (a b : ℕ) → IsGrid g → a < g.size * g.size → b < g.size * g.size
    → IsBroken g (sign_demand FirstGreater a b) ↔ NeverExceeds g.size (number_at g a) (number_at g b)
first_broken g a b valid inside inside_b =
    let w = g.size in
    let x = number_at g a in
    let y = number_at g b in
    let small = valid.smallest in
    let most = most_within w x small (number_within g valid a inside) in
    let least = least_within w y small (number_within g valid b inside_b) in (
      λ broken. elim (cases_lt (least_of y) (most_of w x)) [
        | inl more ↦
            absurd (broken (most_of w x ∷ least_of y ∷ [])
            (pair_filling w x y (most_of w x) (least_of y) most least (λ same. omega arith))
            (lt-ltb (least_of y) (most_of w x) more))
        | inr never ↦ never
      ],
      λ never filled h says.
          let greater = ltb-true (get_or filled 1 0) (get_or filled 0 0) says in
          let count : length filled ≡ 2 = h.same_length in
          let first = h.within 0 0 (omega arith) in
          let second = h.within 1 0 (omega arith) in
          let top = below_most w x (get_or filled 0 0) first.1 (h.keeps 0 (omega arith)) in
          let bottom = above_least y (get_or filled 1 0) second.0 (h.keeps 1 (omega arith)) in
          absurd (omega arith),
    )

-- a sign for its second square is broken exactly if the second can't hold more than the first must
second_broken : (g : GridValue) (a b : ℕ) → IsGrid g → a < g.size * g.size → b < g.size * g.size
    → IsBroken g (sign_demand SecondGreater a b) ↔ NeverExceeds g.size (number_at g b) (number_at g a)
second_broken g a b valid inside inside_b =
    let w = g.size in
    let x = number_at g a in
    let y = number_at g b in
    let small = valid.smallest in
    let least = least_within w x small (number_within g valid a inside) in
    let most = most_within w y small (number_within g valid b inside_b) in (
      λ broken. elim (cases_lt (least_of x) (most_of w y)) [
        | inl more ↦
            absurd (broken (least_of x ∷ most_of w y ∷ [])
            (pair_filling w x y (least_of x) (most_of w y) least most (λ same. omega arith))
            (lt-ltb (least_of x) (most_of w y) more))
        | inr never ↦ never
      ],
      λ never filled h says.
          let greater = ltb-true (get_or filled 0 0) (get_or filled 1 0) says in
          let count : length filled ≡ 2 = h.same_length in
          let first = h.within 0 0 (omega arith) in
          let second = h.within 1 0 (omega arith) in
          let bottom = above_least x (get_or filled 0 0) first.0 (h.keeps 0 (omega arith)) in
          let top = below_most w y (get_or filled 1 0) second.1 (h.keeps 1 (omega arith)) in
          absurd (omega arith),
    )

-- ---- the sign between two squares of which one comes first

-- if a square is greater than a later one, the sign between them says that the first is the greater
ordered_first : (v : UnequalValue) (a b : ℕ) → IsUnequal v → a < b → IsGreater v a b → sign_between v a b ≡ FirstGreater
ordered_first v a b valid order h = grind (arith, nat_tests, greater_next, next_order)

-- if a square is less than a later one, the sign between them says that the second is the greater
ordered_second : (v : UnequalValue) (a b : ℕ) → IsUnequal v → a < b → IsGreater v b a → sign_between v a b ≡ SecondGreater
ordered_second v a b valid order h = grind (arith, nat_tests, greater_next, next_order)

-- a sign that is present is broken exactly if what it demands is broken
present_broken : (g : GridValue) (s : Sign) (a b : ℕ) → is_present s ≡ true → IsSignBroken g s a b ↔ IsBroken g (sign_demand s a b)
present_broken g s a b present = (
  λ h.
      let (d, says, broken) = h in
      let (there, is) = cond_some (is_present s) (sign_demand s a b) d says in subst (IsBroken g) (sym is) broken,
  λ broken. (sign_demand s a b, rw present refl, broken),
)

-- a sign that is broken stands between two squares of the grid
pub broken_inside : (v : UnequalValue) (g : GridValue) (a b : ℕ) → IsUnequal v → IsSignBroken g (sign_between v a b) a b
    → b < v.size * v.size
broken_inside v g a b valid h =
    let s = sign_between v a b in
    let there = cond_some (is_present s) (sign_demand s a b) h.0 h.1 in
    next_inside v.size a b valid.givens.smallest (said_next v a b valid (present_said s there.0))

-- a sign by which the first square is the greater is broken exactly if this can't exceed the second
pub greater_first_broken : (v : UnequalValue) (g : GridValue) (a b : ℕ) → IsUnequal v → IsGrid g → a < b → b < g.size * g.size
    → IsGreater v a b → IsSignBroken g (sign_between v a b) a b ↔ NeverExceeds g.size (number_at g a) (number_at g b)
greater_first_broken v g a b valid is_grid order inside h =
    let broken = present_broken g FirstGreater a b refl in
    let never = first_broken g a b is_grid (omega arith) inside in
    rw (ordered_first v a b valid order h) (λ s. never.0 (broken.0 s), λ n. broken.1 (never.1 n))

-- a sign by which the second square is the greater is broken exactly if this can't exceed the first
pub greater_second_broken : (v : UnequalValue) (g : GridValue) (a b : ℕ) → IsUnequal v → IsGrid g → a < b → b < g.size * g.size
    → IsGreater v b a → IsSignBroken g (sign_between v a b) a b ↔ NeverExceeds g.size (number_at g b) (number_at g a)
greater_second_broken v g a b valid is_grid order inside h =
    let broken = present_broken g SecondGreater a b refl in
    let never = second_broken g a b is_grid (omega arith) inside in
    rw (ordered_second v a b valid order h) (λ s. never.0 (broken.0 s), λ n. broken.1 (never.1 n))

-- without a sign nothing is broken
pub unsigned_unbroken : (v : UnequalValue) (g : GridValue) (a b : ℕ) → (IsGreater v a b → ⊥) → (IsGreater v b a → ⊥)
    → IsSignBroken g (sign_between v a b) a b → ⊥
unsigned_unbroken v g a b not_first not_second h = grind (arith, nat_tests, cond_some)

-- what is broken on the right of a square, or below it, is the sign there
pub right_broken : (v : UnequalValue) (g : GridValue) (cell : ℕ)
    → IsBrokenAt (unequal_demand v) g (RightOf cell) ↔ IsSignBroken g (sign_between v cell (cell + 1)) cell (cell + 1)
right_broken v g cell = grind (arith, nat_tests, right_demand)

pub below_broken : (v : UnequalValue) (g : GridValue) (cell : ℕ) → 3 ≤ v.size
    → IsBrokenAt (unequal_demand v) g (Below cell) ↔ IsSignBroken g (sign_between v cell (cell + v.size)) cell (cell + v.size)
below_broken v g cell small = grind (arith, nat_tests, below_demand)
