-- The signs of an Unequal puzzle as two tables of 81 places, where signs are put, turned round or taken away.
use Rattle.std.proofs.lemmas.Bool.Decides.{nat_tests}
use Rattle.std.proofs.Common.{◌≡◌, ℕ, ◌+◌, ◌*◌, ◌%◌, ◌<◌, ◌≤◌, replicate, None, Some, Bool, true, false, nat_lt, not, List, set, take, length-set, arith, refl, sym, ap, subst, ◌∙◌, inl, inr, ◌==◌, slice_index_or}
use Rattle.std.proofs.Math.Seq.{take-set-lt}
use Rattle.std.proofs.lemmas.List.{drop-set-lt, get_or-set_same, get_or-set_other, get_or-replicate, get_or_past, length-take, length-replicate, drop-replicate, take-replicate}
use Rattle.std.proofs.lemmas.Bool.{ne_eqb, cases_lt, lt-ltb}
use Rattle.latin_board.specs.Squares.{GridValue, IsGrid, blank_grid}
use Rattle.unequal_game.specs.declared.unequal.direction.Direction.{Direction}
use Rattle.unequal_game.specs.declared.unequal.direction.Direction.TheVariants.{Right, Down}
use Rattle.unequal_game.specs.declared.unequal.item.Item.{Item}
use Rattle.unequal_game.specs.declared.unequal.item.Item.TheVariants.{RightSign, LowerSign, Given}
use Rattle.unequal_game.specs.declared.unequal.sign.Sign.{Sign}
use Rattle.unequal_game.specs.declared.unequal.sign.Sign.TheVariants.{Absent}
use Rattle.trail_solver.specs.Items.{kept_items}
use Rattle.trail_solver.proofs.AgreeingSets.{squares_fit}
use Rattle.unequal_game.specs.Inner.UnequalFields.{HoldsSignsOf, KeepsSigns, KeepsUnequal, unequal_value}
use Rattle.unequal_game.specs.Inner.UnequalItems.{item_cell, turned_sign, with_item}
use Rattle.unequal_game.specs.Unequal.{UnequalValue, IsUnequal, blank_unequal, neighbour, cut_unequal, item_at, item_number, has_item, is_present, sign_towards}
use Rattle.trail_solver.proofs.KeptItems.{kept-all, kept-same, not_positive}
use Rattle.unequal_game.specs.Laws.UnequalItems.{number_of_item_at, has_is_item, not_present}
use Rattle.unequal_game.specs.Laws.Signs.{none_at_end}
use Rattle.line_steps.proofs.FilledLemmas.{IsFilledBy}
use Rattle.trail_solver.proofs.ItemsLost.{kept-but_one}

-- to set a sign in a table sets it in the front of the table
pub sign_in_front : (n : ℕ) (places : List Sign) (cell : ℕ) (s : Sign) → cell < n → take n (set places cell s) ≡ set (take n places) cell s
sign_in_front n places cell s inside = take-set-lt n places cell s inside

-- a sign may change where the square has a neighbour, and anywhere to no sign
sign_put : (w : ℕ) (d : Direction) (places : List Sign) (cell : ℕ) (t : Sign) → cell < w * w → (neighbour w cell d ≡ None → t ≡ Absent) → KeepsSigns w d places
    → KeepsSigns w d (set places cell t)
sign_put w d places cell t inside gone kept =
    grind (arith, nat_tests, length-set, drop-set-lt, length-take, get_or-set_same, get_or-set_other, sign_in_front)

-- a table of signs stays one if a sign is turned round, since one stands there already
pub turned_kept : (w : ℕ) (d : Direction) (places : List Sign) (cell : ℕ) (s t : Sign) → cell < w * w → KeepsSigns w d places
    → s ≡ slice_index_or (take (w * w) places) cell Absent → t ≡ turned_sign s → KeepsSigns w d (set places cell t)
turned_kept w d places cell s t inside kept is turn =
    sign_put w d places cell t inside (λ none. turn ∙ ap turned_sign (is ∙ kept.ends cell none)) kept

-- to keep all entries but the one of a number keeps a list that hasn't that entry, and clears it otherwise

others_stay : {X : Type 0} (empty : X) (present : X → Bool) → ((x : X) → present x ≡ false → x ≡ empty) → (number : ℕ → ℕ) (i : ℕ) (xs : List X)
    → ((cell : ℕ) → present (slice_index_or xs cell empty) ≡ true → number cell ≡ i → ⊥)
    → kept_items empty (λ cell. not (number cell == i)) 0 xs ≡ xs
others_stay empty present gone number i xs apart =
    kept-same empty present gone (λ cell. not (number cell == i)) (λ cell. true) xs (λ cell inside here. ap not (ne_eqb (number cell) i (apart cell here)))
    ∙ kept-all empty 0 xs

one_goes : {X : Type 0} (empty : X) (present : X → Bool) → ((x : X) → present x ≡ false → x ≡ empty) → (number : ℕ → ℕ) (i c : ℕ) (xs : List X)
    → number c ≡ i → ((cell : ℕ) → present (slice_index_or xs cell empty) ≡ true → number cell ≡ i → cell ≡ c)
    → kept_items empty (λ cell. not (number cell == i)) 0 xs ≡ set xs c empty
one_goes empty present gone number i c xs here only =
    kept-same empty present gone (λ cell. not (number cell == i)) (λ cell. not (cell == c)) xs (λ cell inside is. one cell is)
    ∙ kept-but_one empty 0 c c xs (omega arith)
  where
    one : (cell : ℕ) → present (slice_index_or xs cell empty) ≡ true → not (number cell == i) ≡ not (cell == c)
    one cell is = grind (arith, nat_tests)

-- to take an item away is to keep all others
pub without_cut : (v : UnequalValue) (i : ℕ) → IsUnequal v → with_item v (item_at v.size i) 0 ≡ cut_unequal v (λ j. not (j == i))
without_cut v i valid = by (item_at v.size i) refl
  where
    only : (it other : Item) → it ≡ item_at v.size i → has_item v other ≡ true → item_number v.size other ≡ i → other ≡ it
    only it other is here e = sym (has_is_item v other valid here).back ∙ ap (item_at v.size) e ∙ sym is

    number : (it : Item) → it ≡ item_at v.size i → item_number v.size it ≡ i
    number it is = ap (item_number v.size) is ∙ number_of_item_at v.size i valid.givens.smallest

    by : (it : Item) → it ≡ item_at v.size i → with_item v it 0 ≡ cut_unequal v (λ j. not (j == i))
    by (RightSign c) is =
        let one = one_goes Absent is_present not_present (λ k. item_number v.size (RightSign k)) i c v.right (number (RightSign c) is) (λ k here e. ap item_cell (only (RightSign c) (RightSign k) is here e)) in
        let below = others_stay Absent is_present not_present (λ k. item_number v.size (LowerSign k)) i v.below (λ k here e. let f = only (RightSign c) (LowerSign k) is here e in cc) in
        let givens = others_stay 0 (nat_lt 0) not_positive (λ k. item_number v.size (Given k)) i v.givens (λ k here e. let f = only (RightSign c) (Given k) is here e in cc) in
        rw (one, below, givens) refl
    by (LowerSign c) is =
        let right = others_stay Absent is_present not_present (λ k. item_number v.size (RightSign k)) i v.right (λ k here e. let f = only (LowerSign c) (RightSign k) is here e in cc) in
        let one = one_goes Absent is_present not_present (λ k. item_number v.size (LowerSign k)) i c v.below (number (LowerSign c) is) (λ k here e. ap item_cell (only (LowerSign c) (LowerSign k) is here e)) in
        let givens = others_stay 0 (nat_lt 0) not_positive (λ k. item_number v.size (Given k)) i v.givens (λ k here e. let f = only (LowerSign c) (Given k) is here e in cc) in
        rw (right, one, givens) refl
    by (Given c) is =
        let right = others_stay Absent is_present not_present (λ k. item_number v.size (RightSign k)) i v.right (λ k here e. let f = only (Given c) (RightSign k) is here e in cc) in
        let below = others_stay Absent is_present not_present (λ k. item_number v.size (LowerSign k)) i v.below (λ k here e. let f = only (Given c) (LowerSign k) is here e in cc) in
        let one = one_goes 0 (nat_lt 0) not_positive (λ k. item_number v.size (Given k)) i c v.givens (number (Given c) is) (λ k here e. ap item_cell (only (Given c) (Given k) is here e)) in
        rw (right, below, one) refl

-- when the squares of the grid are passed, the signs of the direction are there
pub signs_filled : (w : ℕ) (sign : ℕ → ℕ → Sign) (d : Direction) (cell : ℕ) (places : List Sign) → cell ≡ w * w
    → IsFilledBy Absent 81 (sign_towards w sign d) cell places → HoldsSignsOf w sign d places
signs_filled w sign d cell places all h = grind (arith, nat_tests, none_at_end)

-- a sign can be put towards the right or the lower neighbour, where the square has one
pub right_put : (w : ℕ) (places : List Sign) (cell : ℕ) (t : Sign) → cell < w * w → cell % w + 1 < w → KeepsSigns w Right places
    → KeepsSigns w Right (set places cell t)
right_put w places cell t inside room kept =
    sign_put w Right places cell t inside (λ none. absurd (let there : neighbour w cell Right ≡ Some (cell + 1) = rw (ne_eqb (cell % w + 1) w (λ e. omega arith)) refl in
    let e : None ≡ Some (cell + 1) = sym none ∙ there in cc)) kept

pub below_put : (w : ℕ) (places : List Sign) (cell : ℕ) (t : Sign) → cell < w * w → cell + w < w * w → KeepsSigns w Down places
    → KeepsSigns w Down (set places cell t)
below_put w places cell t inside room kept =
    sign_put w Down places cell t inside (λ none. absurd (let there : neighbour w cell Down ≡ Some (cell + w) = rw (lt-ltb (cell + w) (w * w) room) refl in
    let e : None ≡ Some (cell + w) = sym none ∙ there in cc)) kept

-- tables without signs and a grid of givens are a puzzle, and with a blank grid the blank puzzle
pub blank_kept : (right below : List Sign) (givens : GridValue) → right ≡ replicate 81 Absent → below ≡ replicate 81 Absent → IsGrid givens
    → KeepsUnequal right below givens
blank_kept right below givens none_right none_below is_grid =
    let few : givens.size * givens.size ≤ 81 = squares_fit givens.size is_grid.largest in
    record {
      right_kept = rw none_right (none_kept givens.size Right few);
      below_kept = rw none_below (none_kept givens.size Down few);
      grid = is_grid;
    }
  where
    get_or-same : (n k : ℕ) → slice_index_or (replicate n Absent) k Absent ≡ Absent
    get_or-same n k = elim (cases_lt k n) [
      | inl inside ↦ get_or-replicate n k Absent Absent inside
      | inr past ↦ get_or_past (replicate n Absent) k Absent (omega (arith, length-replicate n Absent))
    ]

    none_kept : (w : ℕ) (d : Direction) → w * w ≤ 81 → KeepsSigns w d (replicate 81 Absent)
    none_kept w d few = record {
      padded = record {
        count = length-replicate 81 Absent;
        within = few;
        rest = drop-replicate (w * w) 81 Absent;
      };
      ends = λ cell last. rw (take-replicate (w * w) 81 Absent few) (get_or-same (w * w) cell);
    }

pub blank_value : (w : ℕ) (right below : List Sign) (givens : GridValue) → right ≡ replicate 81 Absent → below ≡ replicate 81 Absent
    → givens ≡ blank_grid w → IsGrid givens → unequal_value right below givens ≡ blank_unequal w
blank_value w right below givens none_right none_below blank is_grid =
    let few : w * w ≤ 81 = squares_fit w (subst (λ (g : GridValue). g.size ≤ 9) blank is_grid.largest) in
    rw (none_right, none_below, blank, take-replicate (w * w) 81 Absent few) refl
