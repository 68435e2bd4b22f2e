-- The laws of what Unequal demands: it stands between neighbours, and is all that the signs ask.
use Rattle.std.proofs.lemmas.Bool.Decides.{nat_tests}
use Rattle.std.proofs.Common.{◌≡◌, ◌↔◌, ℕ, ◌+◌, ◌≤◌, true, Some, refl, sym, ap, ◌∙◌, subst, inl, inr, arith}
use Rattle.std.specs.Bool.{IsTrue}
use Rattle.std.proofs.lemmas.Bool.{ltb-true}
use Rattle.std.proofs.lemmas.Option.{cond_some, none-some}
use Rattle.latin_board.specs.Squares.{GridValue, IsGrid, IsFull, number_at}
use Rattle.latin_board.specs.Lines.{ArePeers}
use Rattle.latin_board.proofs.PeerLines.{line_peers}
use Rattle.unequal_game.specs.declared.unequal.sign.Sign.{Sign}
use Rattle.unequal_game.specs.declared.unequal.sign.Sign.TheVariants.{FirstGreater, SecondGreater}
use Rattle.unequal_game.specs.Unequal.{UnequalValue, IsUnequal, HoldsSigns, sign_between, holds_sign, holds_signs, is_present}
use Rattle.unequal_game.specs.Laws.Neighbours.{IsNext, right_of, below_of, next_line, next_inside}
use Rattle.unequal_game.specs.Laws.Signs.{IsSaid, right_between, below_between, said_next, greater_next}
use Rattle.unequal_game.specs.Laws.SignLemmas.{signs_held, held_signs}
use Rattle.board_checks.specs.declared.spot.Spot.{Spot}
use Rattle.board_checks.specs.declared.spot.Spot.TheVariants.{Edge, RightOf, Below}
use Rattle.board_checks.specs.Demands.{Demand, IsOfPeers, numbers_of}
use Rattle.board_checks.specs.Spots.{IsSpot, MeetsAll}
use Rattle.board_checks.specs.Games.{sign_demand, demand_if_present, unequal_demand}
use Rattle.board_checks.specs.Laws.TwoSquares.{two_all, two_pairs}

-- ---- where there is a sign

-- a sign that is present says something
pub present_said : (s : Sign) → is_present s ≡ true → IsSaid s
present_said s present none = grind (arith, nat_tests)

-- the second square is the first one's right or lower neighbour, and the demand is that of their sign
record IsDemanded (v : UnequalValue) (a b : ℕ) (d : Demand) : Type 0 where
  next : IsNext v.size a b
  is : sign_demand (sign_between v a b) a b ≡ d

demanded_between : (v : UnequalValue) (a b : ℕ) (d : Demand) → IsUnequal v
    → demand_if_present (sign_between v a b) a b ≡ Some d
    → IsDemanded v a b d
demanded_between v a b d valid e = grind (arith, nat_tests, cond_some, said_next, present_said)

-- the sign between a square and the next on its right demands what is demanded on the square's right
pub right_demand : (v : UnequalValue) (cell : ℕ)
    → demand_if_present (sign_between v cell (cell + 1)) cell (cell + 1) ≡ unequal_demand v (RightOf cell)
right_demand v cell = ap (λ (s : Sign). demand_if_present s cell (cell + 1)) (right_between v cell)

-- the sign between a square and the next below demands what is demanded below the square
pub below_demand : (v : UnequalValue) (cell : ℕ) → 3 ≤ v.size
    → demand_if_present (sign_between v cell (cell + v.size)) cell (cell + v.size) ≡ unequal_demand v (Below cell)
below_demand v cell small = ap (λ (s : Sign). demand_if_present s cell (cell + v.size)) (below_between v cell small)

right_demanded : (v : UnequalValue) (cell : ℕ) (d : Demand) → IsUnequal v → unequal_demand v (RightOf cell) ≡ Some d
    → IsDemanded v cell (cell + 1) d
right_demanded v cell d valid e = demanded_between v cell (cell + 1) d valid (right_demand v cell ∙ e)

below_demanded : (v : UnequalValue) (cell : ℕ) (d : Demand) → IsUnequal v → unequal_demand v (Below cell) ≡ Some d
    → IsDemanded v cell (cell + v.size) d
below_demanded v cell d valid e =
    demanded_between v cell (cell + v.size) d valid (below_demand v cell valid.givens.smallest ∙ e)

-- ---- the two squares

pub demand_spot : (v : UnequalValue) (spot : Spot) (d : Demand) → IsUnequal v → unequal_demand v spot ≡ Some d
    → IsSpot v.size spot
demand_spot v spot d valid e = grind (arith, nat_tests, none-some, right_demanded, below_demanded)

next_peers : (w a b : ℕ) → 3 ≤ w → IsNext w a b → ArePeers w a b
next_peers w a b small next =
    let on = next_line w a b small next in
    let peers =
    line_peers w on.line on.place (on.place + 1) on.line_is (omega (arith, on.place_is)) on.place_is
    (λ same. omega arith) in
    rw (on.first, on.second) at peers

demanded_on_line : (v : UnequalValue) (a b : ℕ) (d : Demand) → IsUnequal v → IsDemanded v a b d → IsOfPeers v.size d
demanded_on_line v a b d valid h = grind (arith, nat_tests, two_all, next_inside, two_pairs, next_peers)

pub demand_line : (v : UnequalValue) (spot : Spot) (d : Demand) → IsUnequal v → unequal_demand v spot ≡ Some d
    → IsOfPeers v.size d
demand_line v (Edge place) d valid e = absurd (none-some d e)
demand_line v (RightOf cell) d valid e = demanded_on_line v cell (cell + 1) d valid (right_demanded v cell d valid e)
demand_line v (Below cell) d valid e = demanded_on_line v cell (cell + v.size) d valid (below_demanded v cell d valid e)

-- ---- all that is demanded

-- numbers that are as all signs say are as this one says
sign_held : (v : UnequalValue) (g : GridValue) (a b : ℕ) → HoldsSigns v g → (s : Sign) → sign_between v a b ≡ s
    → holds_sign s (number_at g a) (number_at g b) ≡ true
sign_held v g a b held s e = grind (arith, nat_tests)

demanded_met : (v : UnequalValue) (g : GridValue) (a b : ℕ) (d : Demand) → HoldsSigns v g → IsDemanded v a b d
    → IsTrue (d.says (numbers_of g d))
demanded_met v g a b d held h =
    subst (λ (d : Demand). IsTrue (d.says (numbers_of g d))) h.is (sign_held v g a b held (sign_between v a b) refl)

-- where all demands are met, the numbers of a square and the next are as the sign between them says
met_between : (v : UnequalValue) (g : GridValue) (a b : ℕ) → IsUnequal v → MeetsAll (unequal_demand v) g
    → IsNext v.size a b
    → (s : Sign) → sign_between v a b ≡ s → is_present s ≡ true → holds_sign s (number_at g a) (number_at g b) ≡ true
met_between v g a b valid all next s is present =
    let there : demand_if_present (sign_between v a b) a b ≡ Some (sign_demand s a b) = rw (is, present) refl in
    elim next.points [
      | inl right ↦
          let e : a + 1 ≡ b = sym (right_of v.size a b right).1 in
          let moved =
          subst (λ (n : ℕ). demand_if_present (sign_between v a n) a n ≡ Some (sign_demand s a b)) (sym e) there in
          all (RightOf a) (sign_demand s a b) (sym (right_demand v a) ∙ moved)
      | inr below ↦
          let e : a + v.size ≡ b = sym (below_of v.size a b below).1 in
          let moved =
          subst (λ (n : ℕ). demand_if_present (sign_between v a n) a n ≡ Some (sign_demand s a b)) (sym e) there in
          all (Below a) (sign_demand s a b) (sym (below_demand v a valid.givens.smallest) ∙ moved)
    ]

pub demand_all : (v : UnequalValue) (g : GridValue) → IsUnequal v → IsGrid g → IsFull g → g.size ≡ v.size
    → IsTrue (holds_signs v g) ↔ MeetsAll (unequal_demand v) g
demand_all v g valid is_grid full size = (
  λ held. meets (signs_held v g valid held),
  λ all. held_signs v g (record {
    each = λ a b greater. elim (greater_next v a b valid greater) [
      | inl up ↦ ltb-true (number_at g b) (number_at g a) (met_between v g a b valid all up.0 FirstGreater up.1 refl)
      | inr down ↦ ltb-true (number_at g b) (number_at g a)
          (met_between v g b a valid all down.0 SecondGreater down.1 refl)
    ];
  }),
)
  where
    meets : HoldsSigns v g → MeetsAll (unequal_demand v) g
    meets held (Edge place) d e = absurd (none-some d e)
    meets held (RightOf cell) d e = demanded_met v g cell (cell + 1) d held (right_demanded v cell d valid e)
    meets held (Below cell) d e = demanded_met v g cell (cell + v.size) d held (below_demanded v cell d valid e)
