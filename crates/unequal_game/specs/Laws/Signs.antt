-- The signs of a puzzle: between which squares they stand, which square they say to be the greater, and those that a
-- rule gives.
use Rattle.std.proofs.lemmas.Bool.Decides.{nat_tests}
use Rattle.std.proofs.Common.{◌≡◌, ◌↔◌, Bool, ℕ, ◌+◌, ◌*◌, ◌<◌, ◌≤◌, ◌⊎◌, true, List, None, refl, sym, ◌∙◌, inl, inr, arith, slice_index_or}
use Rattle.std.specs.Bool.{IsTrue}
use Rattle.std.proofs.lemmas.Bool.{and_parts, eq-eqb, ne_eqb}
use Rattle.std.proofs.lemmas.List.{get_or_past}
use Rattle.std.proofs.lemmas.List.FromFn.{length-map-range_with_len, get_or-map-range_with_len}
use Rattle.latin_board.specs.Squares.{GridValue, IsGrid, number_at}
use Rattle.unequal_game.specs.declared.unequal.direction.Direction.{Direction}
use Rattle.unequal_game.specs.declared.unequal.direction.Direction.TheVariants.{Right, Down}
use Rattle.unequal_game.specs.declared.unequal.sign.Sign.{Sign}
use Rattle.unequal_game.specs.declared.unequal.sign.Sign.TheVariants.{Absent, FirstGreater, SecondGreater}
use Rattle.unequal_game.specs.Unequal.{UnequalValue, IsUnequal, IsGreater, neighbour, right_sign, lower_sign}
use Rattle.unequal_game.specs.Unequal.{sign_between, is_greater, holds_sign, holds_signs, holds_towards, sign_towards, signs_towards, signed_puzzle}
use Rattle.unequal_game.specs.Laws.Neighbours.{IsNext, right_of, below_of, next_order}
use Rattle.unequal_game.specs.Laws.RangeTests.{all_in_range, range_all}

-- a sign that says something
abbrev pub IsSaid : Sign → Type 0
IsSaid s = Absent ≡ s → ⊥

-- the sign whose first square is the greater says something
pub first_said : IsSaid FirstGreater
first_said e = cc

-- the sign whose second square is the greater says something
pub second_said : IsSaid SecondGreater
second_said e = cc

-- ---- where a sign stands

-- the sign between a square and the next on its right
pub right_between : (v : UnequalValue) (a : ℕ) → sign_between v a (a + 1) ≡ right_sign v a
right_between v a = rw (eq-eqb (a + 1) (a + 1) refl) refl

-- the sign between a square and the next below
pub below_between : (v : UnequalValue) (a : ℕ) → 3 ≤ v.size → sign_between v a (a + v.size) ≡ lower_sign v a
below_between v a small =
    rw (ne_eqb (a + v.size) (a + 1) (λ e. omega arith), eq-eqb (a + v.size) (a + v.size) refl) refl

-- signs stand between neighbours alone
pub said_next : (v : UnequalValue) (a b : ℕ) → IsUnequal v → IsSaid (sign_between v a b) → IsNext v.size a b
said_next v a b valid said = grind (arith, nat_tests, right_of, below_of, get_or_past)

-- ---- which square is the greater

-- if a is said to be greater than b, the sign says so that stands between a and b, or between b and a
pub greater_next : (v : UnequalValue) (a b : ℕ) → IsUnequal v → IsGreater v a b
    → (IsNext v.size a b × (sign_between v a b ≡ FirstGreater))
    ⊎ (IsNext v.size b a × (sign_between v b a ≡ SecondGreater))
greater_next v a b valid h = grind (arith, nat_tests, said_next, first_said, second_said)

-- where the first of two neighbours is the greater one, the sign says so
pub greater_first : (v : UnequalValue) (a b : ℕ) → IsUnequal v → IsNext v.size a b → IsGreater v a b
    → sign_between v a b ≡ FirstGreater
greater_first v a b valid next h = grind (arith, nat_tests, greater_next, next_order)

-- where the second of two neighbours is the greater one, the sign says so
pub greater_second : (v : UnequalValue) (a b : ℕ) → IsUnequal v → IsNext v.size a b → IsGreater v b a
    → sign_between v a b ≡ SecondGreater
greater_second v a b valid next h = grind (arith, nat_tests, greater_next, next_order)

-- no two squares are each the greater one
pub never_both : (v : UnequalValue) (a b : ℕ) → IsUnequal v → IsGreater v a b → IsGreater v b a → ⊥
never_both v a b valid up down = grind (arith, nat_tests, greater_next, greater_second, greater_first)

-- `is_greater` is the test of `IsGreater`
pub greater_decides : (v : UnequalValue) (a b : ℕ) → IsTrue (is_greater v a b) ↔ IsGreater v a b
greater_decides v a b = grind (arith, nat_tests)

pub greater_tested : (v : UnequalValue) (a b : ℕ) (t : Bool) → t ≡ is_greater v a b → IsTrue t ↔ IsGreater v a b
greater_tested v a b t value = rw value (greater_decides v a b)

-- ---- the test of the signs

-- where the test is passed, the numbers of a square and the next are as the sign between them says
pub sign_held : (v : UnequalValue) (g : GridValue) (a b : ℕ) → holds_signs v g ≡ true → IsNext v.size a b
    → holds_sign (sign_between v a b) (number_at g a) (number_at g b) ≡ true
sign_held v g a b h next =
    let here = all_in_range _ 0 (v.size * v.size) a h (omega arith) (omega (arith, next.inside)) in
    let (on_right, below) = and_parts (holds_towards v g a Right) (holds_towards v g a Down) here in
    elim next.points [ inl right ↦ rw right at on_right | inr lower ↦ rw lower at below ]

-- the test is passed if the numbers of each square and the next are as the sign between them says
pub each_sign_held : (v : UnequalValue) (g : GridValue)
    → ((a b : ℕ) → IsNext v.size a b → holds_sign (sign_between v a b) (number_at g a) (number_at g b) ≡ true)
    → holds_signs v g ≡ true
each_sign_held v g each = grind (arith, nat_tests, range_all)

-- ---- the signs that a rule gives

-- an entry of the signs towards a direction is the sign there
pub sign_at : (w : ℕ) (sign : ℕ → ℕ → Sign) (d : Direction) (cell : ℕ) → cell < w * w
    → slice_index_or (signs_towards w sign d) cell Absent ≡ sign_towards w sign d cell
sign_at w sign d cell inside =
    get_or-map-range_with_len (sign_towards w sign d) 0 (w * w) cell cell Absent inside (omega arith)

-- where there is no neighbour in a direction, there is no sign
pub none_at_end : (w : ℕ) (sign : ℕ → ℕ → Sign) (d : Direction) (cell : ℕ) → neighbour w cell d ≡ None
    → slice_index_or (signs_towards w sign d) cell Absent ≡ Absent
none_at_end w sign d cell none = grind (arith, nat_tests, sign_at, get_or_past, length-map-range_with_len)

-- a puzzle of any signs between neighbours and of a valid grid's numbers is one of Unequal
pub signed_valid : (w : ℕ) (sign : ℕ → ℕ → Sign) (givens : List ℕ) → IsGrid (record { size = w; numbers = givens })
    → IsUnequal (signed_puzzle w sign givens)
signed_valid w sign givens is_grid = grind (arith, nat_tests, length-map-range_with_len, none_at_end)

-- a puzzle of signs by a rule has between two neighbours the sign that the rule gives
pub signed_between : (w : ℕ) (sign : ℕ → ℕ → Sign) (givens : List ℕ) (a b : ℕ) → 3 ≤ w → IsNext w a b
    → sign_between (signed_puzzle w sign givens) a b ≡ sign a b
signed_between w sign givens a b small h = grind (arith, nat_tests, right_of, sign_at, below_of)

-- a puzzle of signs by a rule says that a square is the greater exactly if the rule gives the sign for it
pub signed_greater : (w : ℕ) (sign : ℕ → ℕ → Sign) (givens : List ℕ) (a b : ℕ)
    → IsGrid (record { size = w; numbers = givens })
    → IsGreater (signed_puzzle w sign givens) a b
    ↔ ((IsNext w a b × (sign a b ≡ FirstGreater)) ⊎ (IsNext w b a × (sign b a ≡ SecondGreater)))
signed_greater w sign givens a b is_grid =
    let small : 3 ≤ w = is_grid.smallest in (
      λ h. elim (greater_next (signed_puzzle w sign givens) a b (signed_valid w sign givens is_grid) h) [
        | inl up ↦ inl (up.0, sym (signed_between w sign givens a b small up.0) ∙ up.1)
        | inr down ↦ inr (down.0, sym (signed_between w sign givens b a small down.0) ∙ down.1)
      ],
      λ h. elim h [
        | inl up ↦ inl (signed_between w sign givens a b small up.0 ∙ up.1)
        | inr down ↦ inr (signed_between w sign givens b a small down.0 ∙ down.1)
      ],
    )
