-- The laws of what Unequal items say: it shows which items there are, it is all that a puzzle is, and a change of one
-- leaves all others.
use Rattle.std.proofs.lemmas.Bool.Decides.{nat_tests}
use Rattle.std.proofs.Common.{◌≡◌, ◌≢◌, ℕ, ◌+◌, ◌-◌, ◌*◌, ◌%◌, ◌<◌, ◌≤◌, nat_lt, refl, sym, ◌∙◌, ap, inl, inr, arith}
use Rattle.std.proofs.Common.{slice_index, None, Some, Option, IfSome, false, subst}
use Rattle.std.proofs.lemmas.Nat.{mod_below}
use Rattle.std.proofs.lemmas.Bool.{lt-ltb, le-ltb, cases_lt, cases_eq, eq-eqb, ne_eqb}
use Rattle.std.proofs.lemmas.List.{get_or-set_same, get_or-set_other, get_or-replicate, ext_get_or}
use Rattle.latin_board.proofs.Numbers.{number_within}
use Rattle.unequal_game.specs.declared.unequal.direction.Direction.TheVariants.{Right, Down}
use Rattle.unequal_game.specs.declared.unequal.item.Item.{Item}
use Rattle.unequal_game.specs.declared.unequal.item.Item.TheVariants.{RightSign, LowerSign, Given}
use Rattle.unequal_game.specs.declared.unequal.sign.Sign.{Sign}
use Rattle.unequal_game.specs.declared.unequal.sign.Sign.TheVariants.{Absent}
use Rattle.unequal_game.specs.Inner.UnequalItems.{HasPlace, with_item}
use Rattle.unequal_game.specs.Unequal.{UnequalValue, IsUnequal, neighbour, right_sign, lower_sign, sign_between}
use Rattle.unequal_game.specs.Laws.Signs.{right_between, below_between}
use Rattle.unequal_game.specs.Unequal.{unequal_items, item_at, item_number, has_item, has_unequal}
use Rattle.unequal_game.specs.Unequal.{sign_number, numbered_sign, item_says, unequal_says, item_most, unequal_most, blank_unequal, sign_item}
use Rattle.unequal_game.specs.Laws.UnequalItems.{IsItem, number_of_item_at, has_place, is_right_item, is_lower_item, is_given_item, square_parts}

-- ---- signs by their numbers

-- the sign of a sign's number is the sign, and the number of the sign of a number up to 2 is the number
sign_back : (s : Sign) → numbered_sign (sign_number s) ≡ s
sign_back s = grind (arith, nat_tests)

number_back : (n : ℕ) → n ≤ 2 → sign_number (numbered_sign n) ≡ n
number_back n small = grind (arith, nat_tests)

-- signs with the same number are the same
pub sign_same : (s t : Sign) → sign_number s ≡ sign_number t → s ≡ t
sign_same s t e = sym (sign_back s) ∙ ap numbered_sign e ∙ sign_back t

-- ---- items and their places

-- items of different numbers differ
items_apart : (w i j : ℕ) → 3 ≤ w → j ≢ i → item_at w j ≢ item_at w i
items_apart w i j small other same =
    other (sym (number_of_item_at w j small) ∙ ap (item_number w) same ∙ number_of_item_at w i small)

-- ---- the laws

-- the puzzle has the items that say something
has_by_says : (v : UnequalValue) (item : Item) → has_item v item ≡ nat_lt 0 (item_says v item)
has_by_says v item = grind (arith, nat_tests)

pub has_by_value : (v : UnequalValue) (i : ℕ) → has_unequal v i ≡ nat_lt 0 (unequal_says v i)
has_by_value v i = has_by_says v (item_at v.size i)

-- no item says more than it can
says_within : (v : UnequalValue) (item : Item) → IsUnequal v → HasPlace v.size item
    → item_says v item ≤ item_most v.size item
says_within v item valid place = grind (arith, nat_tests, number_within)

pub value_within : (v : UnequalValue) (i : ℕ) → IsUnequal v → i < unequal_items v.size
    → unequal_says v i ≤ unequal_most v.size i
value_within v i valid inside =
    says_within v (item_at v.size i) valid (has_place v.size i valid.givens.smallest inside)

-- an item says what the item of its number says
says_at : (v : UnequalValue) (w : ℕ) (item : Item) → v.size ≡ w → IsItem w item
    → item_says v item ≡ unequal_says v (item_number w item)
says_at v w item size is = ap (item_says v) (sym is.back ∙ ap (λ n. item_at n (item_number w item)) (sym size))

no_right : (w cell : ℕ) → 3 ≤ w → w ≤ cell % w + 1 → neighbour w cell Right ≡ None
no_right w cell small last = grind (arith, nat_tests, mod_below)

no_below : (w cell : ℕ) → w * w ≤ cell + w → neighbour w cell Down ≡ None
no_below w cell last = rw (le-ltb (cell + w) (w * w) last) refl

-- two puzzles of one size whose items say the same are one
pub value_all : (p q : UnequalValue) → IsUnequal p → IsUnequal q → p.size ≡ q.size
    → ((i : ℕ) → i < unequal_items p.size → unequal_says p i ≡ unequal_says q i) → p ≡ q
value_all p q p_valid q_valid size same =
    let square = ap (λ w. w * w) size in
    let right = ext_get_or Absent p.right q.right (p_valid.right_count ∙ square ∙ sym q_valid.right_count)
    (λ cell inside. right_same cell (omega (arith, p_valid.right_count))) in
    let below = ext_get_or Absent p.below q.below (p_valid.below_count ∙ square ∙ sym q_valid.below_count)
    (λ cell inside. below_same cell (omega (arith, p_valid.below_count))) in
    let givens = ext_get_or 0 p.givens q.givens (p_valid.givens.count ∙ square ∙ sym q_valid.givens.count)
    (λ cell inside. item_same (Given cell) (is_given_item p.size cell (omega (arith, p_valid.givens.count)))) in
    λ i. record { size = size i; right = right i; below = below i; givens = givens i }
  where
    small : 3 ≤ p.size
    small = p_valid.givens.smallest

    item_same : (item : Item) → IsItem p.size item → item_says p item ≡ item_says q item
    item_same item is =
        says_at p p.size item refl is ∙ same (item_number p.size item) is.inside
        ∙ sym (says_at q p.size item (sym size) is)

    right_same : (cell : ℕ) → cell < p.size * p.size → right_sign p cell ≡ right_sign q cell
    right_same cell inside = elim (cases_lt (cell % p.size + 1) p.size) [
      | inl room ↦
          sign_same (right_sign p cell) (right_sign q cell)
          (item_same (RightSign cell) (is_right_item p.size cell small inside room))
      | inr last ↦
          let none = no_right p.size cell small last in
          p_valid.right_ends cell none
          ∙ sym (q_valid.right_ends cell (rw (← size) none))
    ]

    below_same : (cell : ℕ) → cell < p.size * p.size → lower_sign p cell ≡ lower_sign q cell
    below_same cell inside = elim (cases_lt (cell + p.size) (p.size * p.size)) [
      | inl room ↦
          let parts = square_parts (p.size - 1) p.size (omega (arith, small)) in
          sign_same (lower_sign p cell) (lower_sign q cell)
          (item_same (LowerSign cell) (is_lower_item p.size cell (omega (arith, parts, room))))
      | inr last ↦
          let none = no_below p.size cell last in
          p_valid.below_ends cell none
          ∙ sym (q_valid.below_ends cell (rw (← size) none))
    ]

-- where an item says another number, the others say what they said
other_says : (v : UnequalValue) (item other : Item) (n : ℕ) → other ≢ item
    → item_says (with_item v item n) other ≡ item_says v other
other_says v item other n apart = grind (arith, nat_tests, get_or-set_other)

with_size : (v : UnequalValue) (item : Item) (n : ℕ) → (with_item v item n).size ≡ v.size
with_size v item n = grind (arith, nat_tests)

-- an item that is made to say a number says it, and all others say what they said
pub put_one : (v u : UnequalValue) (item : Item) (i n : ℕ) → u ≡ with_item v item n → item ≡ item_at v.size i
    → IsUnequal v → i < unequal_items v.size → n ≤ unequal_most v.size i → unequal_says u i ≡ n
put_one v u item i n put is valid inside fits =
    grind (arith, nat_tests, with_size, has_place, get_or-set_same, number_back)

pub put_others : (v u : UnequalValue) (item : Item) (i n j : ℕ) → u ≡ with_item v item n → item ≡ item_at v.size i
    → IsUnequal v → j ≢ i → unequal_says u j ≡ unequal_says v j
put_others v u item i n j put is valid other = grind (arith, nat_tests, with_size, other_says, items_apart)

-- the blank puzzle says nothing
pub blank_none : (v : UnequalValue) (w : ℕ) → v ≡ blank_unequal w → IsUnequal v → (i : ℕ) → i < unequal_items w
    → unequal_says v i ≡ 0
blank_none v w is valid i inside = grind (arith, nat_tests, has_place, get_or-replicate)

-- ---- places

-- the item of a given says the given
pub given_says : (v : UnequalValue) (cell : ℕ) → IsUnequal v → cell < v.size * v.size
    → unequal_says v (item_number v.size (Given cell)) ≡ slice_index v.givens cell
given_says v cell valid inside = sym (says_at v v.size (Given cell) refl (is_given_item v.size cell inside))

pub given_item_inside : (w cell : ℕ) → cell < w * w → item_number w (Given cell) < unequal_items w
given_item_inside w cell inside = (is_given_item w cell inside).inside

-- no item is a clue
pub clue_says : (v : UnequalValue) (i : ℕ) → None ≡ Some i → false ≡ nat_lt 0 (unequal_says v i)
clue_says v i is = absurd (cc)

-- the item of the sign between two squares: it says that sign, 1 where the first is the greater, 2 where the second
record IsSignItem (w a b i : ℕ) : Type 0 where
  pub item : Item
  pub is : IsItem w item
  pub number : item_number w item ≡ i
  pub says : (v : UnequalValue) → v.size ≡ w → item_says v item ≡ sign_number (sign_between v a b)

is_sign_item : (w a b : ℕ) → 3 ≤ w → a < w * w → b < w * w → IfSome (sign_item w a b) (IsSignItem w a b)
is_sign_item w a b small inside there = elim (cases_eq b (a + 1)) [
  | inl beside ↦ elim (cases_lt (a % w + 1) w) [
    | inl room ↦ rw (eq-eqb b (a + 1) beside, lt-ltb (a % w + 1) w room) (record {
      item = RightSign a;
      is = is_right_item w a small inside room;
      number = refl;
      says = λ v size. ap sign_number (sym (right_between v a) ∙ ap (λ c. sign_between v a c) (sym beside));
    })
    | inr last ↦ rw (le-ltb (a % w + 1) w last, eq-eqb b (a + 1) beside, ne_eqb b (a + w) (λ e. omega arith)) tt
  ]
  | inr other ↦ elim (cases_eq b (a + w)) [
    | inl under ↦ rw (ne_eqb b (a + 1) other, eq-eqb b (a + w) under) (record {
      item = LowerSign a;
      is = is_lower_item w a (omega (arith, square_parts (w - 1) w (omega (arith, small))));
      number = refl;
      says = λ v size. ap sign_number (sym (below_between v a (rw size small))
          ∙ ap (λ c. sign_between v a c) (ap (λ n. a + n) size ∙ sym under));
    })
    | inr apart ↦ rw (ne_eqb b (a + 1) other, ne_eqb b (a + w) apart) tt
  ]
]

pub sign_item_inside : (w a b : ℕ) (found : Option ℕ) → found ≡ sign_item w a b → (3 ≤ w) × (w ≤ 9) → a < w * w → b < w * w
    → IfSome found (λ i. i < unequal_items w)
sign_item_inside w a b found is small inside there = grind (arith, nat_tests, is_sign_item)

pub sign_item_says : (w a b : ℕ) (found : Option ℕ) → found ≡ sign_item w a b → a < w * w → b < w * w
    → (v : UnequalValue) (i : ℕ) → IsUnequal v → v.size ≡ w → found ≡ Some i
    → unequal_says v i ≡ sign_number (sign_between v a b)
sign_item_says w a b found is inside there v i valid size here =
    let small : 3 ≤ w = rw (← size) valid.givens.smallest in
    let it : IsSignItem w a b i = subst (λ (o : Option ℕ). IfSome o (IsSignItem w a b)) (sym is ∙ here) (is_sign_item w a b small inside there) in
    ap (unequal_says v) (sym it.number) ∙ sym (says_at v w it.item size it.is) ∙ it.says v size
