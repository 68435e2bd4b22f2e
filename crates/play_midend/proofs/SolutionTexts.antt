-- The digits of a solution: what is read of them is the grid that they spell.
use Rattle.std.proofs.lemmas.Bool.Decides.{nat_tests}
use Rattle.std.proofs.Common.{◌≡◌, ℕ, ◌+◌, ◌*◌, ◌<◌, ◌≤◌, ◌==◌, cond, List, [], ◌∷◌, ◌++◌, length, map, slice_index, Option, Some, option_map, refl, sym, ap, ◌∙◌, subst, arith}
use Rattle.std.specs.List.{AllByRecursion}
use Rattle.std.proofs.lemmas.List.{length-map}
use Rattle.std.proofs.lemmas.List.Elements.{All-from_recursion, All-from_get_or, recursion_from_All}
use Rattle.std.proofs.lemmas.Option.{cond_some}
use Rattle.latin_board.specs.Squares.{GridValue}
use Rattle.play_midend.proofs.OptionSteps.{map_taken, and_then_taken}
use Rattle.play_midend.specs.MoveTexts.{digit_at, digits_at, size_by_count, solution_at, IsFullGrid}

-- the numbers read so far, in front of those that the rest gives, if it can be read
abbrev pub read_onto : List ℕ → Option (List ℕ) → Option (List ℕ)
read_onto front more = option_map (λ ns. front ++ ns) more

-- a number from 1 to w
abbrev Within : ℕ → ℕ → Type 0
Within w n = (1 ≤ n) × (n ≤ w)

digit_taken : (w b n : ℕ) → digit_at w b ≡ Some n → Within w n × (b ≡ 48 + n)
digit_taken w b n read = grind (arith, nat_tests, cond_some)

digit_again : (w n : ℕ) → Within w n → digit_at w (48 + n) ≡ Some n
digit_again w n h = grind (arith, nat_tests)

digits_taken : (w : ℕ) (text ns : List ℕ) → digits_at w text ≡ Some ns → AllByRecursion (Within w) ns × (text ≡ map (λ n. 48 + n) ns)
digits_taken w [] ns read =
    let e : [] ≡ ns = cc in
    subst (λ (xs : List ℕ). AllByRecursion (Within w) xs × ([] ≡ map (λ n. 48 + n) xs)) e (tt, refl)
digits_taken w (b ∷ bs) ns read =
    let one = and_then_taken _ (digit_at w b) ns read in
    let more = map_taken (λ xs. one.value ∷ xs) (digits_at w bs) ns one.rest in
    let first = digit_taken w b one.value one.gives in
    let rest = digits_taken w bs more.value more.gives in
    subst (λ (ys : List ℕ). AllByRecursion (Within w) ys × (b ∷ bs ≡ map (λ n. 48 + n) ys)) more.rest
    ((first.0, rest.0), ap (λ x. x ∷ bs) first.1 ∙ ap (λ xs. (48 + one.value) ∷ xs) rest.1)

digits_again : (w : ℕ) (ns : List ℕ) → AllByRecursion (Within w) ns → digits_at w (map (λ n. 48 + n) ns) ≡ Some ns
digits_again w [] h = refl
digits_again w (n ∷ ns) h = rw (digit_again w n h.0, digits_again w ns h.1) refl

-- what holds of n, and of each size from n + 1 to 9, holds of each size from n to 9
from_size : (P : ℕ → Type 0) (n : ℕ) → P n → ((w : ℕ) → n + 1 ≤ w → w ≤ 9 → P w) → (w : ℕ) → n ≤ w → w ≤ 9 → P w
from_size P n here later w low high = grind (arith, nat_tests)

square_size_again : (w : ℕ) → 3 ≤ w → w ≤ 9 → size_by_count (w * w) ≡ Some w
square_size_again =
    let P : ℕ → Type 0 = λ w. size_by_count (w * w) ≡ Some w in
    from_size P 3 refl (from_size P 4 refl (from_size P 5 refl (from_size P 6 refl (from_size P 7 refl (from_size P 8 refl
    (from_size P 9 refl (λ w low high. absurd (omega arith))))))))

-- so many squares are those of a grid of this width
pub record IsSize (n w : ℕ) : Type 0 where
  pub smallest : 3 ≤ w
  pub largest : w ≤ 9
  pub count : n ≡ w * w

-- one row of the table: its size, or what the rows after it give
row_taken : (n k v w : ℕ) (rest : Option ℕ) → IsSize k v → (rest ≡ Some w → IsSize n w) → cond (n == k) (Some v) rest ≡ Some w
    → IsSize n w
row_taken n k v w rest here later = grind (arith, nat_tests)

-- so many squares as w times w have the width w
square_of : (w : ℕ) → 3 ≤ w → w ≤ 9 → IsSize (w * w) w
square_of w low high = record { smallest = low; largest = high; count = refl }

square_size_taken : (n w : ℕ) → size_by_count n ≡ Some w → IsSize n w
square_size_taken n w = grind (arith, nat_tests, row_taken, square_of)

full_grid : (text ns : List ℕ) (w : ℕ) → IsSize (length text) w → AllByRecursion (Within w) ns → text ≡ map (λ n. 48 + n) ns
    → IsFullGrid (record { size = w; numbers = ns })
full_grid text ns w size within is =
    let all = All-from_recursion (Within w) ns within in
    let long : length ns ≡ w * w = sym (length-map ns (λ n. 48 + n)) ∙ ap length (sym is) ∙ size.count in
    record {
      grid = record { smallest = size.smallest; largest = size.largest; count = long; within = λ k d less. (all k d less).1 };
      full = record { each = λ cell inside. let h = all cell 0 (omega (arith, long)) in let low : 1 ≤ slice_index ns cell = h.0 in omega arith };
    }

pub solution_digits_taken : (text : List ℕ) (g : GridValue) → solution_at text ≡ Some g
    → IsFullGrid g × (text ≡ map (λ n. 48 + n) g.numbers)
solution_digits_taken text g read =
    let size = and_then_taken _ (size_by_count (length text)) g read in
    let w = size.value in
    let digits = map_taken (λ ns. let r : GridValue = record { size = w; numbers = ns } in r) (digits_at w text) g size.rest in
    let taken = digits_taken w text digits.value digits.gives in
    subst (λ (h : GridValue). IsFullGrid h × (text ≡ map (λ n. 48 + n) h.numbers)) digits.rest
    (full_grid text digits.value w (square_size_taken (length text) w size.gives) taken.0 taken.1, taken.1)

pub solution_digits_again : (g : GridValue) → IsFullGrid g → solution_at (map (λ n. 48 + n) g.numbers) ≡ Some g
solution_digits_again g h =
    let each : (k : ℕ) → k < length g.numbers → Within g.size (slice_index g.numbers k) =
    λ k less. (let low = h.full.each k (omega (arith, h.grid.count)) in omega arith, h.grid.within k 0 less) in
    let within = recursion_from_All (Within g.size) g.numbers (All-from_get_or (Within g.size) g.numbers 0 each) in
    let size : size_by_count (length (map (λ n. 48 + n) g.numbers)) ≡ Some g.size =
    rw (length-map g.numbers (λ n. 48 + n), h.grid.count) (square_size_again g.size h.grid.smallest h.grid.largest) in
    rw (size, digits_again g.size g.numbers within) refl
