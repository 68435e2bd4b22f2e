-- The laws of Unequal items: what a cut keeps, what two cuts make, and that the full puzzle of a Latin square is solved
-- by it.
use Rattle.std.proofs.lemmas.Bool.Decides.{nat_tests}
use Rattle.std.proofs.Common.{◌≡◌, ◌≢◌, ℕ, zero, ◌+◌, ◌-◌, ◌*◌, ◌/◌, ◌%◌, ◌<◌, ◌≤◌, nat_lt, ◌⊎◌, Bool, true, false}
use Rattle.std.proofs.Common.{◌&&◌, refl, ap, ◌∙◌, inl, inr, arith, if◌then◌else◌, slice_index, ◌==◌}
use Rattle.std.proofs.Math.Nat.{mul_comm}
use Rattle.std.proofs.lemmas.Nat.{div_below, mod_below, div-mul-add, mod-mul-add, mul-add-lt}
use Rattle.std.proofs.lemmas.Bool.{lt-ltb, le-ltb, cases_lt, ne_eqb}
use Rattle.std.proofs.lemmas.List.{get_or_past}
use Rattle.latin_board.specs.Squares.{GridValue, IsGrid, IsLatin, number_at}
use Rattle.latin_board.proofs.LatinLines.{line_differs, latin_full}
use Rattle.latin_board.proofs.Numbers.{number_within}
use Rattle.trail_solver.specs.Puzzles.{Solves}
use Rattle.game_texts.specs.declared.game.TheConstants.{MOST_ITEMS}
use Rattle.unequal_game.specs.declared.unequal.item.Item.{Item}
use Rattle.unequal_game.specs.declared.unequal.item.Item.TheVariants.{RightSign, LowerSign, Given}
use Rattle.unequal_game.specs.declared.unequal.sign.Sign.{Sign}
use Rattle.unequal_game.specs.declared.unequal.sign.Sign.TheVariants.{Absent}
use Rattle.unequal_game.specs.Unequal.{UnequalValue, IsUnequal, IsGreater, right_sign, lower_sign, sign_between}
use Rattle.unequal_game.specs.Unequal.{holds_sign, unequal_puzzle, pairs_across, unequal_items, item_at, item_number}
use Rattle.unequal_game.specs.Unequal.{is_present, has_item, has_unequal, keeps_kind, cut_unequal, sign_of, sign_in_grid}
use Rattle.unequal_game.specs.Unequal.{full_unequal, unequal_given_grid}
use Rattle.unequal_game.specs.Inner.UnequalItems.{HasPlace}
use Rattle.unequal_game.specs.Laws.Neighbours.{IsNext, right_of, below_of, next_line, next_inside}
use Rattle.unequal_game.specs.Laws.Signs.{first_said, second_said, said_next, right_between, below_between}
use Rattle.unequal_game.specs.Laws.Signs.{sign_held, each_sign_held, signed_between, signed_valid}
use Rattle.trail_solver.proofs.KeptItems.{length-kept, entry-kept, kept-all, kept-kept, kept-same, present_kept}
use Rattle.trail_solver.proofs.KeptItems.{not_positive, still_asked, none_asked, small_widths, IsGrid-kept}

-- what holds of every puzzle

-- the width is from 3 to 9
pub valid_size : (v : UnequalValue) → IsUnequal v → (3 ≤ v.size) × (v.size ≤ 9)
valid_size v h = (h.givens.smallest, h.givens.largest)

-- a given is at most the width
pub valid_given : (v : UnequalValue) (cell : ℕ) → IsUnequal v → cell < v.size * v.size
    → slice_index v.givens cell ≤ v.size
valid_given v cell h inside = number_within (unequal_given_grid v) h.givens cell inside

-- ---- items and their numbers

-- the square of a sign in a row isn't the last one of its row
pub record IsRightItem (w i cell : ℕ) : Type 0 where
  pub inside : cell < w * w
  pub column : cell % w + 1 < w
  pub number : item_number w (RightSign cell) ≡ i

right_item : (w i : ℕ) → 3 ≤ w → i < pairs_across w → IsRightItem w i (i / (w - 1) * w + i % (w - 1))
right_item w i small h = grind (arith, nat_tests, div_below, mod_below, mod-mul-add, mul-add-lt, div-mul-add)

-- the item of a number has that number
pub number_of_item_at : (w i : ℕ) → 3 ≤ w → item_number w (item_at w i) ≡ i
number_of_item_at w i small = grind (arith, nat_tests, right_item)

-- all squares are those of all columns but one, and one column
pub square_parts : (m w : ℕ) → w ≡ m + 1 → w * w ≡ w * m + w
square_parts m w e = rw e (omega arith)

-- the item of a number has a place
pub has_place : (w i : ℕ) → 3 ≤ w → i < unequal_items w → HasPlace w (item_at w i)
has_place w i small inside = grind (arith, nat_tests, square_parts, right_item)

-- an item that a puzzle of a width can have
pub record IsItem (w : ℕ) (item : Item) : Type 0 where
  pub inside : item_number w item < unequal_items w
  pub back : item_at w (item_number w item) ≡ item

-- a sign between a square and its right neighbour is an item that a puzzle can have
pub is_right_item : (w cell : ℕ) → 3 ≤ w → cell < w * w → cell % w + 1 < w → IsItem w (RightSign cell)
is_right_item w cell small inside room =
    grind (arith, nat_tests, div_below, mul_comm, mul-add-lt, div-mul-add, mod-mul-add)

-- a sign between a square and its lower neighbour is an item that a puzzle can have
pub is_lower_item : (w cell : ℕ) → cell < pairs_across w → IsItem w (LowerSign cell)
is_lower_item w cell low = grind (arith, nat_tests)

-- a given is an item that a puzzle can have
pub is_given_item : (w cell : ℕ) → cell < w * w → IsItem w (Given cell)
is_given_item w cell inside = grind (arith, nat_tests)

-- a sign that says nothing is absent
pub not_present : (s : Sign) → is_present s ≡ false → s ≡ Absent
not_present s h = grind (arith, nat_tests)

-- each item of a puzzle is one that it can have
pub has_is_item : (v : UnequalValue) (item : Item) → IsUnequal v → has_item v item ≡ true → IsItem v.size item
has_is_item v item valid here =
    grind (
      arith,
      nat_tests,
      said_next,
      right_between,
      mod_below,
      is_right_item,
      right_of,
      below_of,
      below_between,
      next_inside,
      is_lower_item,
      square_parts,
      is_given_item,
      get_or_past,
    )

-- ---- cuts

-- a cut of a puzzle is a puzzle
pub cut_valid : (v : UnequalValue) (keep : ℕ → Bool) → IsUnequal v → IsUnequal (cut_unequal v keep)
cut_valid v keep h = record {
  givens = IsGrid-kept (unequal_given_grid v) (keeps_kind v.size keep Given) 0 h.givens;
  right_count = length-kept Absent (keeps_kind v.size keep RightSign) 0 v.right ∙ h.right_count;
  right_ends = λ cell none. entry-kept Absent (keeps_kind v.size keep RightSign) 0 v.right cell cell (omega arith)
      ∙ lost (keeps_kind v.size keep RightSign cell) (right_sign v cell) (h.right_ends cell none);
  below_count = length-kept Absent (keeps_kind v.size keep LowerSign) 0 v.below ∙ h.below_count;
  below_ends = λ cell none. entry-kept Absent (keeps_kind v.size keep LowerSign) 0 v.below cell cell (omega arith)
      ∙ lost (keeps_kind v.size keep LowerSign cell) (lower_sign v cell) (h.below_ends cell none);
}
  where
    lost : (b : Bool) (s : Sign) → s ≡ Absent → (if b then s else Absent) ≡ Absent
    lost true s e = e
    lost false s e = refl

cut_has_item : (v : UnequalValue) (keep : ℕ → Bool) (item : Item)
    → has_item (cut_unequal v keep) item ≡ (has_item v item && keep (item_number v.size item))
cut_has_item v keep item = grind (arith, nat_tests, entry-kept, present_kept)

-- a cut has the items that were there and are in the set
pub cut_has : (v : UnequalValue) (keep : ℕ → Bool) (i : ℕ) → IsUnequal v
    → has_unequal (cut_unequal v keep) i ≡ (has_unequal v i && keep i)
cut_has v keep i h =
    cut_has_item v keep (item_at v.size i)
    ∙ ap (λ j. has_unequal v i && keep j) (number_of_item_at v.size i h.givens.smallest)

-- to keep every item changes nothing
pub cut_all : (v : UnequalValue) → cut_unequal v (λ i. true) ≡ v
cut_all v = rw (kept-all Absent 0 v.right, kept-all Absent 0 v.below, kept-all zero 0 v.givens) refl

-- two cuts are one, by the items in both sets
pub cut_cut : (v : UnequalValue) (first second : ℕ → Bool)
    → cut_unequal (cut_unequal v first) second ≡ cut_unequal v (λ i. first i && second i)
cut_cut v first second = grind (arith, nat_tests, kept-kept)

-- the widths that are generated have few items
pub few_items : (w : ℕ) → 3 ≤ w → w ≤ 6 → unequal_items w ≤ MOST_ITEMS
few_items w low high =
    small_widths (λ n. unequal_items n ≤ MOST_ITEMS) (omega arith) (omega arith) (omega arith) (omega arith) w low high

-- only the items that a puzzle has matter to what is kept of it
pub cut_agrees : (v : UnequalValue) (a b : ℕ → Bool) → IsUnequal v
    → ((i : ℕ) → i < unequal_items v.size → has_unequal v i ≡ true → a i ≡ b i) → cut_unequal v a ≡ cut_unequal v b
cut_agrees v a b h same =
    let right =
    kept-same Absent is_present not_present (keeps_kind v.size a RightSign) (keeps_kind v.size b RightSign) v.right
    (λ cell inside here. at (RightSign cell) here) in
    let below =
    kept-same Absent is_present not_present (keeps_kind v.size a LowerSign) (keeps_kind v.size b LowerSign) v.below
    (λ cell inside here. at (LowerSign cell) here) in
    let givens =
    kept-same zero (nat_lt 0) not_positive (keeps_kind v.size a Given) (keeps_kind v.size b Given) v.givens
    (λ cell inside here. at (Given cell) here) in
    λ i. record { size = v.size; right = right i; below = below i; givens = givens i }
  where
    at : (item : Item) → has_item v item ≡ true → a (item_number v.size item) ≡ b (item_number v.size item)
    at item here = let is = has_is_item v item h here in same (item_number v.size item) is.inside (rw is.back here)

-- a cut has the sign that was between two squares, or none
cut_between : (v : UnequalValue) (keep : ℕ → Bool) (a b : ℕ)
    → (sign_between (cut_unequal v keep) a b ≡ sign_between v a b) ⊎ (sign_between (cut_unequal v keep) a b ≡ Absent)
cut_between v keep a b = grind (arith, nat_tests, entry-kept)

-- where a cut says which of two squares is the greater, the whole puzzle says so, too
pub cut_greater : (v : UnequalValue) (keep : ℕ → Bool) (a b : ℕ) → IsGreater (cut_unequal v keep) a b → IsGreater v a b
cut_greater v keep a b h = grind (arith, nat_tests, cut_between, first_said, second_said)

-- a given of a cut is that of the whole
pub cut_given : (v : UnequalValue) (keep : ℕ → Bool) (cell : ℕ) → 0 < slice_index (cut_unequal v keep).givens cell
    → slice_index (cut_unequal v keep).givens cell ≡ slice_index v.givens cell
cut_given v keep cell = grind (arith, nat_tests, entry-kept)

-- a cut loses no solution
pub cut_solved : (v : UnequalValue) (keep : ℕ → Bool) (g : GridValue) → Solves (unequal_puzzle v) g
    → Solves (unequal_puzzle (cut_unequal v keep)) g
cut_solved v keep g h = record {
  is_grid = h.is_grid;
  same_size = h.same_size;
  latin = h.latin;
  givens = λ cell inside. still_asked (keeps_kind v.size keep Given) 0 v.givens cell (number_at g cell)
      (h.givens cell inside);
  clues = each_sign_held (cut_unequal v keep) g (λ a b next. elim (cut_between v keep a b) [
    | inl same ↦ rw same (sign_held v g a b h.clues next)
    | inr none ↦ rw none refl
  ]);
}

-- without items there is no sign
none_between : (v : UnequalValue) (a b : ℕ) → sign_between (cut_unequal v (λ i. false)) a b ≡ Absent
none_between v a b = grind (arith, nat_tests, entry-kept)

-- without items a puzzle asks nothing
pub cut_none : (v : UnequalValue) (g : GridValue) → IsGrid g → IsLatin g → g.size ≡ v.size
    → Solves (unequal_puzzle (cut_unequal v (λ i. false))) g
cut_none v g is_grid latin size = record {
  is_grid = is_grid;
  same_size = size;
  latin = latin;
  givens = λ cell inside. none_asked 0 v.givens cell (number_at g cell);
  clues = each_sign_held (cut_unequal v (λ i. false)) g (λ a b next. rw (none_between v a b) refl);
}

-- ---- the full puzzle

-- the full puzzle of a Latin square is a puzzle
pub full_valid : (g : GridValue) → IsGrid g → IsUnequal (full_unequal g)
full_valid g h = signed_valid g.size (sign_in_grid g) g.numbers h

sign_present : (x y : ℕ) → x ≢ y → is_present (sign_of x y) ≡ true
sign_present x y differ = grind (arith, nat_tests)

sign_of_holds : (x y : ℕ) → holds_sign (sign_of x y) x y ≡ true
sign_of_holds x y = grind (arith, nat_tests)

-- a Latin square solves its full puzzle
pub full_solved : (g : GridValue) → IsGrid g → IsLatin g → Solves (unequal_puzzle (full_unequal g)) g
full_solved g is_grid latin = record {
  is_grid = is_grid;
  same_size = refl;
  latin = latin;
  givens = λ cell inside low. refl;
  clues = each_sign_held (full_unequal g) g (λ a b next.
      rw (signed_between g.size (sign_in_grid g) g.numbers a b is_grid.smallest next)
      (sign_of_holds (number_at g a) (number_at g b)));
}

-- squares that are next to each other have different numbers, and so a sign
full_present : (g : GridValue) (a b : ℕ) → IsGrid g → IsLatin g → IsNext g.size a b
    → is_present (sign_between (full_unequal g) a b) ≡ true
full_present g a b is_grid latin next =
    let on = next_line g.size a b is_grid.smallest next in
    let differ =
    line_differs g is_grid latin on.line on.place (on.place + 1) on.line_is (omega (arith, on.place_is)) on.place_is
    (λ e. omega arith) in
    rw (signed_between g.size (sign_in_grid g) g.numbers a b is_grid.smallest next)
    (sign_present (number_at g a) (number_at g b) (rw (on.first, on.second) at differ))

-- the full puzzle has every item
pub full_has : (g : GridValue) (i : ℕ) → IsGrid g → IsLatin g → i < unequal_items g.size
    → has_unequal (full_unequal g) i ≡ true
full_has g i is_grid latin inside =
    let n : ℕ = pairs_across g.size in
    let v : UnequalValue = full_unequal g in
    elim (cases_lt i n) [
      | inl right ↦
          let at = right_item g.size i is_grid.smallest right in
          let a : ℕ = i / (g.size - 1) * g.size + i % (g.size - 1) in
          let apart : (a % g.size + 1 == g.size) ≡ false =
          ne_eqb (a % g.size + 1) g.size (λ e. omega (arith, at.column)) in
          let next : IsNext g.size a (a + 1) = record { inside = at.inside; points = inl (rw apart refl) } in
          rw (lt-ltb i n right) (rw (right_between v a) at (full_present g a (a + 1) is_grid latin next))
      | inr past ↦ elim (cases_lt i (2 * n)) [
        | inl below ↦
            let a : ℕ = i - n in
            let fits : a + g.size < g.size * g.size =
            omega (arith, square_parts (g.size - 1) g.size (omega (arith, is_grid.smallest))) in
            let next : IsNext g.size a (a + g.size) =
            record { inside = omega arith; points = inr (rw (lt-ltb (a + g.size) (g.size * g.size) fits) refl) } in
            rw (le-ltb i n past, lt-ltb i (2 * n) below)
            (rw (below_between v a is_grid.smallest) at (full_present g a (a + g.size) is_grid latin next))
        | inr given ↦
            rw (le-ltb i n past, le-ltb i (2 * n) given)
            (lt-ltb 0 (number_at g (i - 2 * n)) ((latin_full g latin).each (i - 2 * n) (omega arith)))
      ]
    ]
