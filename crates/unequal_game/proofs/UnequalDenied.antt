-- An item of Unequal is denied: a given goes from the candidates of its square, and a sign is turned round.
use Rattle.std.proofs.lemmas.Bool.Decides.{nat_tests}
use Rattle.std.proofs.Common.{◌≡◌, ◌≢◌, ℕ, ◌+◌, ◌*◌, ◌<◌, ◌≤◌, ◌⊎◌, true, List, set, length, refl, sym, ap, subst, ◌∙◌, inl, inr, arith, slice_index}
use Rattle.std.proofs.lemmas.List.{get_or-set_same, get_or-set_other}
use Rattle.latin_board.specs.Squares.{GridValue, IsGrid, IsLatin, number_at}
use Rattle.latin_board.proofs.LatinLines.{line_differs}
use Rattle.trail_solver.specs.Candidates.{CandidatesValue}
use Rattle.trail_solver.specs.Puzzles.{Solves}
use Rattle.trail_solver.specs.Solutions.{Denies}
use Rattle.unequal_game.specs.declared.unequal.item.Item.{Item}
use Rattle.unequal_game.specs.declared.unequal.item.Item.TheVariants.{RightSign, LowerSign, Given}
use Rattle.unequal_game.specs.declared.unequal.sign.Sign.{Sign}
use Rattle.unequal_game.specs.declared.unequal.sign.Sign.TheVariants.{Absent}
use Rattle.line_steps.specs.Inner.Narrowing.{KeepsEach}
use Rattle.unequal_game.specs.Inner.UnequalItems.{denied_item, item_cell, turned_sign, with_item}
use Rattle.unequal_game.specs.Unequal.{UnequalValue, IsUnequal, holds_sign, lower_sign, right_sign, sign_between, unequal_puzzle}
use Rattle.unequal_game.specs.Laws.Neighbours.{IsNext, next_line}
use Rattle.unequal_game.specs.Laws.Signs.{IsSaid, below_between, each_sign_held, first_said, right_between, said_next, second_said, sign_held}
use Rattle.line_steps.proofs.GivenDenied.{given_denied}

-- a given is denied if it goes from the puzzle, and its number from the candidates of its square
pub number_denied : (v u : UnequalValue) (item : Item) (cell given : ℕ) (old new : CandidatesValue) → item ≡ Given cell → u ≡ with_item v (Given cell) 0
    → given ≡ slice_index v.givens cell → KeepsEach (λ g. number_at g cell ≢ given) old new
    → Denies (unequal_puzzle v) (unequal_puzzle (with_item v item 0)) (unequal_puzzle u) old new
number_denied v u item cell given old new at is value keeps = grind (arith, nat_tests, given_denied, get_or-set_other)

-- ---- a sign

-- the puzzle with other signs
abbrev with_signs : UnequalValue → List Sign → List Sign → UnequalValue
with_signs v right below = record { size = v.size; right = right; below = below; givens = v.givens }

-- both puzzles have the same signs, but for the sign between these two squares
abbrev AreSameBut : UnequalValue → UnequalValue → ℕ → ℕ → Type 0
AreSameBut u v x y = (a b : ℕ) → (a ≡ x → b ≡ y → ⊥) → sign_between u a b ≡ sign_between v a b

-- a grid that solves a puzzle solves one with the same signs but for one, if it holds that one
solved_but : (v : UnequalValue) (r d p q : List Sign) (g : GridValue) (x y : ℕ) → AreSameBut (with_signs v p q) (with_signs v r d) x y
    → holds_sign (sign_between (with_signs v p q) x y) (number_at g x) (number_at g y) ≡ true
    → Solves (unequal_puzzle (with_signs v r d)) g → Solves (unequal_puzzle (with_signs v p q)) g
solved_but v r d p q g x y same here s = record {
  is_grid = s.is_grid;
  same_size = s.same_size;
  latin = s.latin;
  givens = s.givens;
  clues = each_sign_held (with_signs v p q) g (λ a b next. held a b (sign_held (with_signs v r d) g a b s.clues next));
}
  where
    held : (a b : ℕ) → holds_sign (sign_between (with_signs v r d) a b) (number_at g a) (number_at g b) ≡ true
        → holds_sign (sign_between (with_signs v p q) a b) (number_at g a) (number_at g b) ≡ true
    held a b h = grind (arith, nat_tests)

-- of two different numbers, a sign holds or its opposite
held_or_turned : (s : Sign) (m n : ℕ) → (IsSaid s → m ≢ n) → (holds_sign s m n ≡ true) ⊎ (holds_sign (turned_sign s) m n ≡ true)
held_or_turned s m n differ = grind (arith, nat_tests, first_said, second_said)

-- a Latin square has different numbers at both ends of a sign
said_differ : (v : UnequalValue) (x y : ℕ) (g : GridValue) → IsUnequal v → IsGrid g → IsLatin g → g.size ≡ v.size
    → IsSaid (sign_between v x y) → number_at g x ≢ number_at g y
said_differ v x y g valid is_grid latin size said =
    let Next : ℕ → Type 0 = λ w. IsNext w x y in
    let on = next_line g.size x y is_grid.smallest (subst Next (sym size) (said_next v x y valid said)) in
    let differ = line_differs g is_grid latin on.line on.place (on.place + 1) on.line_is (omega (arith, on.place_is)) on.place_is (λ e. omega arith) in
    rw (on.first, on.second) at differ

-- of the grids that solve a puzzle without a sign, those that don't hold the sign hold it turned round
sign_denied : (v : UnequalValue) (r d p q : List Sign) (x y : ℕ) (c : CandidatesValue) → IsUnequal v
    → AreSameBut (with_signs v r d) v x y → AreSameBut (with_signs v p q) v x y
    → sign_between (with_signs v r d) x y ≡ Absent → sign_between (with_signs v p q) x y ≡ turned_sign (sign_between v x y)
    → Denies (unequal_puzzle v) (unequal_puzzle (with_signs v r d)) (unequal_puzzle (with_signs v p q)) c c
sign_denied v r d p q x y c valid without denied none turn = record {
  some = λ g s within.
      let P : Sign → Type 0 = λ s. holds_sign s (number_at g x) (number_at g y) ≡ true in
      solved_but v p q r d g x y (λ a b apart. without a b apart ∙ sym (denied a b apart)) (subst P (sym none) refl) s;
  others = λ g s within.
      let P : Sign → Type 0 = λ s. holds_sign s (number_at g x) (number_at g y) ≡ true in
      elim (held_or_turned (sign_between v x y) (number_at g x) (number_at g y) (said_differ v x y g valid s.is_grid s.latin s.same_size)) [
        | inl held ↦ inl (solved_but v r d v.right v.below g x y (λ a b apart. sym (without a b apart)) held s)
        | inr other ↦ inr (solved_but v r d p q g x y (λ a b apart. denied a b apart ∙ sym (without a b apart)) (subst P (sym turn) other) s, within)
      ];
}

-- to put a sign towards a right neighbour changes no other sign
right_but : (v : UnequalValue) (cell : ℕ) (s : Sign) → AreSameBut (with_signs v (set v.right cell s) v.below) v cell (cell + 1)
right_but v cell s a b apart = grind (arith, nat_tests, get_or-set_other)

-- to put a sign towards a lower neighbour changes no other sign
lower_but : (v : UnequalValue) (cell : ℕ) (s : Sign) → AreSameBut (with_signs v v.right (set v.below cell s)) v cell (cell + v.size)
lower_but v cell s a b apart = grind (arith, nat_tests, get_or-set_other)

-- a sign towards the right neighbour is denied if it is turned round
pub right_denied : (v u : UnequalValue) (item : Item) (cell : ℕ) (c : CandidatesValue) → IsUnequal v → item ≡ RightSign cell
    → item_cell item < v.size * v.size → u ≡ denied_item v (RightSign cell)
    → Denies (unequal_puzzle v) (unequal_puzzle (with_item v item 0)) (unequal_puzzle u) c c
right_denied v u item cell c valid at within is =
    let Inside : Item → Type 0 = λ x. item_cell x < v.size * v.size in
    let inside : cell < v.size * v.size = subst Inside at within in
    let count : cell < length v.right = omega (arith, valid.right_count) in
    let turn : Sign = turned_sign (right_sign v cell) in
    let P : UnequalValue → Type 0 = λ x. Denies (unequal_puzzle v) (unequal_puzzle (with_item v (RightSign cell) 0)) (unequal_puzzle x) c c in
    let Q : Item → Type 0 = λ x. Denies (unequal_puzzle v) (unequal_puzzle (with_item v x 0)) (unequal_puzzle u) c c in
    subst Q (sym at) (subst P (sym is) (sign_denied v (set v.right cell Absent) v.below (set v.right cell turn) v.below cell (cell + 1) c valid
    (right_but v cell Absent) (right_but v cell turn)
    (right_between (with_signs v (set v.right cell Absent) v.below) cell ∙ get_or-set_same v.right cell Absent Absent count)
    (right_between (with_signs v (set v.right cell turn) v.below) cell ∙ get_or-set_same v.right cell turn Absent count
    ∙ ap turned_sign (sym (right_between v cell)))))

-- a sign towards the lower neighbour is denied if it is turned round
pub lower_denied : (v u : UnequalValue) (item : Item) (cell : ℕ) (c : CandidatesValue) → IsUnequal v → item ≡ LowerSign cell
    → item_cell item < v.size * v.size → u ≡ denied_item v (LowerSign cell)
    → Denies (unequal_puzzle v) (unequal_puzzle (with_item v item 0)) (unequal_puzzle u) c c
lower_denied v u item cell c valid at within is =
    let Inside : Item → Type 0 = λ x. item_cell x < v.size * v.size in
    let inside : cell < v.size * v.size = subst Inside at within in
    let small : 3 ≤ v.size = valid.givens.smallest in
    let count : cell < length v.below = omega (arith, valid.below_count) in
    let turn : Sign = turned_sign (lower_sign v cell) in
    let P : UnequalValue → Type 0 = λ x. Denies (unequal_puzzle v) (unequal_puzzle (with_item v (LowerSign cell) 0)) (unequal_puzzle x) c c in
    let Q : Item → Type 0 = λ x. Denies (unequal_puzzle v) (unequal_puzzle (with_item v x 0)) (unequal_puzzle u) c c in
    subst Q (sym at) (subst P (sym is) (sign_denied v v.right (set v.below cell Absent) v.right (set v.below cell turn) cell (cell + v.size) c valid
    (lower_but v cell Absent) (lower_but v cell turn)
    (below_between (with_signs v v.right (set v.below cell Absent)) cell small ∙ get_or-set_same v.below cell Absent Absent count)
    (below_between (with_signs v v.right (set v.below cell turn)) cell small ∙ get_or-set_same v.below cell turn Absent count
    ∙ ap turned_sign (sym (below_between v cell small)))))
