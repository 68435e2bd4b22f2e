-- The first row that fits, number by number.
use Rattle.std.proofs.lemmas.Bool.Decides.{nat_tests}
use Rattle.std.proofs.Common.{◌≡◌, ℕ, zero, suc, ◌+◌, ◌-◌, ◌<◌, ◌≤◌, true, false, if◌then◌else◌, Option, Some, None, List, [], ◌∷◌, ◌++◌, length, length-append, take, drop, get_or, refl, sym, ◌∙◌, ap, arith}
use Rattle.std.proofs.Math.Seq.{drop-cons, take-append_seam, take-length}
use Rattle.std.proofs.Math.ListN.{drop_of_length-le}
use Rattle.std.specs.List.{flat_map, slice_get}
use Rattle.latin_board.specs.Squares.{GridValue}
use Rattle.fair_games.specs.Squares.{first_row, is_free, ways, with_row}

-- the ways by a number in the first of the columns
abbrev pub tries : GridValue → List ℕ → ℕ → List ℕ → List ℕ → ℕ → List (List ℕ)
tries g numbers column columns chosen n = if is_free g column chosen n then ways g numbers columns (chosen ++ n ∷ []) else []

-- the ways from a number on are those by it, and then those from the next one on
next_ways : (try : ℕ → List (List ℕ)) (numbers : List ℕ) (k : ℕ) → k < length numbers
    → flat_map try (drop k numbers) ≡ try (get_or numbers k 0) ++ flat_map try (drop (k + 1) numbers)
next_ways try numbers k below = grind (arith, nat_tests, drop-cons)

-- a list without a first element is empty
none_first : (xs : List (List ℕ)) → slice_get xs 0 ≡ None → xs ≡ []
none_first [] none = refl
none_first (x ∷ xs) none = absurd cc

-- the first of a list stays the first with more after it
first_front : (xs ys : List (List ℕ)) (row : List ℕ) → slice_get xs 0 ≡ Some row → slice_get (xs ++ ys) 0 ≡ Some row
first_front [] ys row first = absurd cc
first_front (x ∷ xs) ys row first = first

-- a number that leads to nothing is passed over
passes_over : (try : ℕ → List (List ℕ)) (numbers : List ℕ) (k : ℕ) → k < length numbers → try (get_or numbers k 0) ≡ []
    → flat_map try (drop k numbers) ≡ flat_map try (drop (k + 1) numbers)
passes_over try numbers k below nothing =
    next_ways try numbers k below ∙ ap (λ ws. ws ++ flat_map try (drop (k + 1) numbers)) nothing

-- the first way by a number that leads to some is the first way from that number on
takes_first : (try : ℕ → List (List ℕ)) (numbers row : List ℕ) (k : ℕ) → k < length numbers → slice_get (try (get_or numbers k 0)) 0 ≡ Some row
    → slice_get (flat_map try (drop k numbers)) 0 ≡ Some row
takes_first try numbers row k below found = grind (arith, nat_tests, next_ways, first_front)

-- after the last number no way is left
pub tries_none : (try : ℕ → List (List ℕ)) (numbers : List ℕ) (k : ℕ) → length numbers ≤ k → flat_map try (drop k numbers) ≡ []
tries_none try numbers k past = ap (flat_map try) (drop_of_length-le numbers past)

-- the columns but the first
abbrev pub rest_of : List ℕ → List ℕ
rest_of columns = take (length columns - 1) (drop 1 columns)

take_all : (xs : List ℕ) (n : ℕ) → n ≡ length xs → take n xs ≡ xs
take_all xs n e = ap (λ (k : ℕ). take k xs) e ∙ take-length xs

-- the ways to go on are those by each number in the first of the columns
pub row_begins : (g : GridValue) (numbers columns chosen : List ℕ) → 1 ≤ length columns
    → ways g numbers columns chosen ≡ flat_map (tries g numbers (get_or columns 0 0) (rest_of columns) chosen) numbers
row_begins g numbers columns chosen some = grind (arith, nat_tests, take_all)

-- the ways by a free number are those of the columns after it, with the number chosen
tries_free : (g : GridValue) (numbers : List ℕ) (column : ℕ) (columns chosen : List ℕ) (n : ℕ) → is_free g column chosen n ≡ true
    → tries g numbers column columns chosen n ≡ ways g numbers columns (chosen ++ n ∷ [])
tries_free g numbers column columns chosen n free = rw free refl

-- by a number that isn't free there is no way
tries_taken : (g : GridValue) (numbers : List ℕ) (column : ℕ) (columns chosen : List ℕ) (n : ℕ) → is_free g column chosen n ≡ false
    → tries g numbers column columns chosen n ≡ []
tries_taken g numbers column columns chosen n taken = rw taken refl

-- if no number before a free one leads to a row, the first row by the free one is the first of all
pub row_found : (g : GridValue) (numbers columns chosen more row : List ℕ) (k : ℕ) → 1 ≤ length columns → k < length numbers
    → flat_map (tries g numbers (get_or columns 0 0) (rest_of columns) chosen) numbers
    ≡ flat_map (tries g numbers (get_or columns 0 0) (rest_of columns) chosen) (drop k numbers)
    → is_free g (get_or columns 0 0) chosen (get_or numbers k 0) ≡ true → more ≡ chosen ++ get_or numbers k 0 ∷ []
    → first_row g numbers (rest_of columns) more ≡ Some row → first_row g numbers columns chosen ≡ Some row
row_found g numbers columns chosen more row k some below so_far free made found =
    let n = get_or numbers k 0 in
    let first : List (List ℕ) → Option (List ℕ) = λ ws. slice_get ws 0 in
    ap first (row_begins g numbers columns chosen some ∙ so_far)
    ∙ takes_first (tries g numbers (get_or columns 0 0) (rest_of columns) chosen) numbers row k below
    (ap first (tries_free g numbers (get_or columns 0 0) (rest_of columns) chosen n free)
    ∙ ap (first_row g numbers (rest_of columns)) (sym made) ∙ found)

-- a number that isn't free is passed over
pub passes_taken : (g : GridValue) (numbers columns chosen : List ℕ) (k : ℕ) → k < length numbers
    → is_free g (get_or columns 0 0) chosen (get_or numbers k 0) ≡ false
    → flat_map (tries g numbers (get_or columns 0 0) (rest_of columns) chosen) (drop k numbers)
    ≡ flat_map (tries g numbers (get_or columns 0 0) (rest_of columns) chosen) (drop (k + 1) numbers)
passes_taken g numbers columns chosen k below taken = grind (arith, nat_tests, passes_over, tries_taken)

-- a free number that leads nowhere is passed over
pub passes_free : (g : GridValue) (numbers columns chosen more : List ℕ) (k : ℕ) → k < length numbers
    → is_free g (get_or columns 0 0) chosen (get_or numbers k 0) ≡ true → more ≡ chosen ++ get_or numbers k 0 ∷ []
    → first_row g numbers (rest_of columns) more ≡ None
    → flat_map (tries g numbers (get_or columns 0 0) (rest_of columns) chosen) (drop k numbers)
    ≡ flat_map (tries g numbers (get_or columns 0 0) (rest_of columns) chosen) (drop (k + 1) numbers)
passes_free g numbers columns chosen more k below free made none =
    grind (arith, nat_tests, passes_over, tries_free, none_first)

-- a list with a number put after it, and without its last number, is the list again
pub without_last : (xs ys : List ℕ) (x : ℕ) → ys ≡ xs ++ x ∷ [] → take (length ys - 1) ys ≡ xs
without_last xs ys x made =
    let count : length ys - 1 ≡ length xs = let l = ap length made ∙ length-append xs (x ∷ []) in omega (arith, l) in
    ap (λ (n : ℕ). take n ys) count ∙ ap (take (length xs)) made ∙ take-append_seam xs (x ∷ [])

-- a row more leaves the size as it was
pub with_row_size : (g : GridValue) (row : ℕ) (columns chosen : List ℕ) (k : ℕ) → (with_row g row columns chosen k).size ≡ g.size
with_row_size g row columns chosen zero = refl
with_row_size g row columns chosen (suc k) = refl
