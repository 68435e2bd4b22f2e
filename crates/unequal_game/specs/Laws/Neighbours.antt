-- A square and its neighbours: of each two, one is the right or the lower neighbour of the other, and they follow each
-- other on a line.
use Rattle.std.proofs.lemmas.Bool.Decides.{nat_tests}
use Rattle.std.proofs.Common.{◌≡◌, ℕ, ◌+◌, ◌-◌, ◌*◌, ◌/◌, ◌%◌, ◌<◌, ◌≤◌, ◌⊎◌, Bool, true, false, if◌then◌else◌, ◌==◌}
use Rattle.std.proofs.Common.{Some, None, refl, sym, ◌∙◌, inl, inr, arith}
use Rattle.std.proofs.lemmas.Nat.{div_below, mod_below, div-mul-add, mod-mul-add}
use Rattle.std.proofs.lemmas.Bool.{ne_eqb, eqb-false}
use Rattle.std.proofs.lemmas.Option.{cond_some}
use Rattle.latin_board.specs.Lines.{line_cell}
use Rattle.latin_board.proofs.LatinLines.{line_cell-column, line_cell-row, line_cell_of_row, line_cell_inside}
use Rattle.unequal_game.specs.declared.unequal.direction.Direction.{Direction}
use Rattle.unequal_game.specs.declared.unequal.direction.Direction.TheVariants.{Up, Right, Down, Left}
use Rattle.unequal_game.specs.Unequal.{neighbour, AreNeighbours}

-- b is the right or the lower neighbour of the square a
pub record IsNext (w a b : ℕ) : Type 0 where
  pub inside : a < w * w
  pub points : (neighbour w a Right ≡ Some b) ⊎ (neighbour w a Down ≡ Some b)

some_else : (t : Bool) (x y : ℕ) → (if t then None else Some x) ≡ Some y → (t ≡ false) × (x ≡ y)
some_else true x y e = absurd (cc)
some_else false x y e = (refl, cc)

-- the neighbour on the right, which the last square of a row hasn't
pub right_of : (w a b : ℕ) → neighbour w a Right ≡ Some b → (a % w + 1 ≡ w → ⊥) × (b ≡ a + 1)
right_of w a b e = grind (arith, nat_tests, some_else)

-- the neighbour below, which is on the grid
pub below_of : (w a b : ℕ) → neighbour w a Down ≡ Some b → (b < w * w) × (b ≡ a + w)
below_of w a b e = grind (arith, nat_tests, cond_some)

-- of two neighbours the first comes before the second in reading order
pub next_order : (w a b : ℕ) → 3 ≤ w → IsNext w a b → a < b
next_order w a b small h = grind (arith, nat_tests)

-- of a square and a neighbour, one is the other's right or lower neighbour
pub towards : (w a b : ℕ) (d : Direction) → 3 ≤ w → a < w * w → neighbour w a d ≡ Some b → IsNext w a b ⊎ IsNext w b a
towards w a b Right small inside e = inl (record { inside = inside; points = inl e })
towards w a b Down small inside e = inl (record { inside = inside; points = inr e })
towards w a b Up small inside e = grind (arith, nat_tests, some_else)
towards w a b Left small inside e =
    let there = some_else (a % w == 0) (a - 1) b e in
    let column : 0 < a % w = omega (arith, eqb-false (a % w) 0 there.0) in
    let within : a % w < w = mod_below a w (omega (arith, small)) in
    let left : b ≡ a / w * w + (a % w - 1) = omega (arith, there.1) in
    let left_column : b % w ≡ a % w - 1 = rw left (mod-mul-add (a / w) w (a % w - 1) (omega arith)) in
    let back : b + 1 ≡ a = omega (arith, there.1) in
    let more : (b % w + 1 == w) ≡ false = ne_eqb (b % w + 1) w (λ last. omega arith) in
    inr (record { inside = omega (arith, there.1); points = inl (rw (more, back) refl) })

pub neighbours_next : (w a b : ℕ) → 3 ≤ w → AreNeighbours w a b → IsNext w a b ⊎ IsNext w b a
neighbours_next w a b small h = towards w a b h.direction small h.inside h.points

-- the place on a line from which the one square and the next are a and b
pub record IsOnLineBefore (w a b : ℕ) : Type 0 where
  pub line : ℕ
  pub place : ℕ
  pub line_is : line < 2 * w
  pub place_is : place + 1 < w
  pub first : line_cell w line place ≡ a
  pub second : line_cell w line (place + 1) ≡ b

-- two neighbours follow one another on a line
pub next_line : (w a b : ℕ) → 3 ≤ w → IsNext w a b → IsOnLineBefore w a b
next_line w a b small h =
    let some : 0 < w = omega (arith, small) in
    let row : a / w < w = div_below a w w some h.inside in
    let column : a % w < w = mod_below a w some in
    elim h.points [
      | inl right ↦
          let there = right_of w a b right in
          record {
            line = a / w;
            place = a % w;
            line_is = omega arith;
            place_is = omega (arith, there.0);
            first = line_cell_of_row w a h.inside;
            second = line_cell-row w (a / w) (a % w + 1) row ∙ omega (arith, there.1);
          }
      | inr below ↦
          let there = below_of w a b below in
          let parts : b ≡ (a / w + 1) * w + a % w = omega (arith, there.1) in
          let lower : b / w ≡ a / w + 1 = rw parts (div-mul-add (a / w + 1) w (a % w) column) in
          let lower_row : b / w < w = div_below b w w some there.0 in
          record {
            line = w + a % w;
            place = a / w;
            line_is = omega arith;
            place_is = omega arith;
            first = line_cell-column w (a % w) (a / w) ∙ omega arith;
            second = line_cell-column w (a % w) (a / w + 1) ∙ sym parts;
          }
    ]

-- the second of two neighbours is on the grid
pub next_inside : (w a b : ℕ) → 3 ≤ w → IsNext w a b → b < w * w
next_inside w a b small h = grind (arith, nat_tests, next_line, line_cell_inside)

-- a square and its right or lower neighbour are neighbours, each of the other
pub next_towards : (w a b : ℕ) → 3 ≤ w → IsNext w a b → AreNeighbours w a b × AreNeighbours w b a
next_towards w a b small h = grind (arith, nat_tests, right_of, mod_below, mod-mul-add, next_inside, below_of)
