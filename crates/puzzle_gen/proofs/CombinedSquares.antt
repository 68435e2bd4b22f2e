-- The square that is combined of three orders is Latin.
use Rattle.std.proofs.lemmas.Bool.Decides.{nat_tests}
use Rattle.std.proofs.Common.{◌≡◌, ℕ, ◌+◌, ◌-◌, ◌*◌, ◌%◌, ◌<◌, List, length, get_or, map, sym, ◌∙◌, ap, arith, add_comm}
use Rattle.std.specs.List.{range_with_len}
use Rattle.std.proofs.Math.Nat.{mod-add-mod, add-mod-mod, add-mod_right, mod-eq_of_lt}
use Rattle.std.proofs.lemmas.Nat.{mul-add-lt, div-mul-add, mod-mul-add, mod_below}
use Rattle.std.proofs.lemmas.List.FromFn.{get_or-map-range_with_len, fill_by_all}
use Rattle.latin_board.specs.Squares.{GridValue, IsGrid, IsLatin, HasEachOnce, number_at}
use Rattle.puzzle_gen.specs.Orders.{place_in, IsOrder}
use Rattle.puzzle_gen.specs.SeededSquares.{seeded_number, combined}
use Rattle.puzzle_gen.proofs.OrderPlaces.{once_at}

-- ---- turning round a circle of w places, and back

turned : (w d x : ℕ) → d < w → x < w → ((d + x) % w + (w - d)) % w ≡ x
turned w d x step place =
    let whole : (d + x) + (w - d) ≡ x + w = omega arith in
    mod-add-mod (d + x) w (w - d) ∙ ap (λ (n : ℕ). n % w) whole ∙ add-mod_right x w ∙ mod-eq_of_lt place

turned_back : (w d y : ℕ) → d < w → y < w → (d + (y + (w - d)) % w) % w ≡ y
turned_back w d y step place =
    let whole : d + (y + (w - d)) ≡ y + w = omega arith in
    add-mod-mod d (y + (w - d)) w ∙ ap (λ (n : ℕ). n % w) whole ∙ add-mod_right y w ∙ mod-eq_of_lt place

-- ---- a line has each number once

-- a line that turns an order by d places, and reads the symbols there
line_once : (w d : ℕ) (turns symbols : List ℕ) (f : ℕ → ℕ) → 0 < w → d < w → IsOrder w turns → IsOrder w symbols
    → ((k : ℕ) → k < w → f k ≡ get_or symbols ((d + get_or turns k 0) % w) 0 + 1) → HasEachOnce w (map f (range_with_len 0 w))
line_once w d turns symbols f some step in_turn in_symbols made = λ v low high.
    let symbol : v - 1 < w = omega arith in
    let place = place_in (v - 1) symbols in
    let place_small : place < w = in_symbols.inside (v - 1) symbol in
    let turn = (place + (w - d)) % w in
    let turn_small : turn < w = mod_below (place + (w - d)) w some in
    let k = place_in turn turns in
    let k_small : k < w = in_turn.inside turn turn_small in
    let there : (d + get_or turns k 0) % w ≡ place =
    ap (λ (n : ℕ). (d + n) % w) (in_turn.back turn turn_small) ∙ turned_back w d place step place_small in
    let read : get_or symbols ((d + get_or turns k 0) % w) 0 ≡ v - 1 =
    ap (λ (n : ℕ). get_or symbols n 0) there ∙ in_symbols.back (v - 1) symbol in
    let here : f k ≡ v = omega (arith, made k k_small, read) in
    sym (once_at f v k w k_small here (λ j j_small same.
    let read_j : get_or symbols ((d + get_or turns j 0) % w) 0 ≡ v - 1 = omega (arith, made j j_small, same) in
    grind (arith, nat_tests, mod_below, turned)))

-- ---- the square

-- the number in a row and a column of it
number_in : (w row column : ℕ) (rows columns symbols : List ℕ) → row < w → column < w
    → number_at (combined w rows columns symbols) (row * w + column)
    ≡ get_or symbols ((get_or rows row 0 + get_or columns column 0) % w) 0 + 1
number_in w row column rows columns symbols low left =
    get_or-map-range_with_len (seeded_number w rows columns symbols) 0 (w * w) (row * w + column) (row * w + column) 0
    (mul-add-lt row w column w low left) (omega arith)
    ∙ ap (λ (r : ℕ). get_or symbols ((get_or rows r 0 + get_or columns ((row * w + column) % w) 0) % w) 0 + 1)
    (div-mul-add row w column left)
    ∙ ap (λ (c : ℕ). get_or symbols ((get_or rows row 0 + get_or columns c 0) % w) 0 + 1) (mod-mul-add row w column left)

pub latin_combined : (w : ℕ) (rows columns symbols : List ℕ) → 0 < w → IsOrder w rows → IsOrder w columns → IsOrder w symbols
    → IsLatin (combined w rows columns symbols)
latin_combined w rows columns symbols some in_rows in_columns in_symbols = record {
  rows = λ row below.
      line_once w (get_or rows row 0) columns symbols (λ column. number_at (combined w rows columns symbols) (row * w + column))
      some (in_rows.items row below) in_columns in_symbols
      (λ column left. number_in w row column rows columns symbols below left);
  columns = λ column left.
      line_once w (get_or columns column 0) rows symbols (λ row. number_at (combined w rows columns symbols) (row * w + column))
      some (in_columns.items column left) in_rows in_symbols
      (λ row below. grind (arith, nat_tests, number_in, add_comm));
}

-- a grid whose numbers are those that three orders give is the square that is combined of them
pub combined_all : (w : ℕ) (rows columns symbols : List ℕ) (g : GridValue) → g.size ≡ w → IsGrid g
    → ((j : ℕ) → j < w * w → number_at g j ≡ seeded_number w rows columns symbols j) → g ≡ combined w rows columns symbols
combined_all w rows columns symbols g size grid numbers =
    let count : length g.numbers ≡ w * w = grid.count ∙ ap (λ (n : ℕ). n * n) size in
    let filled = fill_by_all (seeded_number w rows columns symbols) g.numbers (w * w) 0 count numbers in
    λ i. record { size = size i; numbers = filled i }
