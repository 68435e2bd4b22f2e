-- The laws of the description: what is read is spelled so, and what is spelled so is read.
use Rattle.std.proofs.Common.{◌≡◌, ℕ, ◌+◌, ◌-◌, ◌*◌, ◌≤◌, true, false, ◌&&◌, nat_le, nat_lt, cond, codes, List, [], ◌∷◌}
use Rattle.std.proofs.Common.{◌++◌, length, map, Option, Some, None, option_map, option_and_then, Result, Ok, Err}
use Rattle.std.proofs.Common.{ok_or, refl, sym, ap, ◌∙◌, subst, arith}
use Rattle.std.specs.List.{AllByRecursion}
use Rattle.std.proofs.lemmas.List.{length-map}
use Rattle.std.proofs.lemmas.List.Elements.{All-from_recursion, recursion_from_All}
use borrow.Author.Tests.{leb-true, le-leb}
use Rattle.byte_text.specs.Bytes.{digit}
use Rattle.byte_text.specs.Reading.{◌>>=◌}
use Rattle.latin_board.specs.Squares.{GridValue, IsGrid}
use Rattle.game_texts.specs.declared.game.TheConstants.{MOST_ITEMS}
use Rattle.game_texts.specs.declared.id_fault.IdFault.{IdFault}
use Rattle.game_texts.specs.declared.id_fault.IdFault.TheVariants.{BadSquares, TooFew, TooMany}
use Rattle.clue_rules.specs.GameIds.{is_separator, LacksSeparators}
use Rattle.clue_rules.specs.IdFaults.{NotForMemory, exactly}
use Rattle.game_texts.specs.Laws.Exactly.{exactly_taken, exactly_again}
use Rattle.trail_solver.proofs.KeptItems.{small_widths}
use Rattle.game_texts.specs.Laws.NotForMemory.{not_for_memory-then, not_for_memory-if}
use Rattle.client.specs.Latin.{items_of, latin_desc, number_of_byte, numbers_in, givens_in, latin_at}

-- the widths that are generated have few squares
pub few_items : (w : ℕ) → 3 ≤ w → w ≤ 6 → items_of w ≤ MOST_ITEMS
few_items w low high =
    small_widths (λ n. items_of n ≤ MOST_ITEMS) (omega arith) (omega arith) (omega arith) (omega arith) w low high

-- no letter of the game is a separator of an ID
pub letters_lack : LacksSeparators (codes "en")
letters_lack = All-from_recursion (λ letter. is_separator letter ≡ false) (codes "en") (refl, (refl, tt))

-- what is read so far, in front of what more is read
abbrev pub read_onto : List ℕ → Option (List ℕ) → Option (List ℕ)
read_onto front more = option_map (λ ns. front ++ ns) more

-- a byte that is read is the digit of its number
number_taken : (w b n : ℕ) → number_of_byte w b ≡ Some n → (n ≤ w) × (b ≡ digit n)
number_taken w b n =
    elim (nat_le 48 b) as
    (λ t. nat_le 48 b ≡ t → cond (t && nat_le b (48 + w)) (Some (b - 48)) None ≡ Some n → (n ≤ w) × (b ≡ 48 + n)) [
      | true ↦ λ low. elim (nat_le b (48 + w)) as
          (λ t. nat_le b (48 + w) ≡ t → cond t (Some (b - 48)) None ≡ Some n → (n ≤ w) × (b ≡ 48 + n)) [
            | true ↦ λ high read.
                let e : b - 48 ≡ n = cc in
                let l = leb-true _ _ low in
                let h = leb-true _ _ high in
                (omega arith, omega arith)
            | false ↦ λ high read. cc
          ] refl
      | false ↦ λ low read. cc
    ] refl

-- the digit of a number is read as the number
number_again : (w n : ℕ) → n ≤ w → number_of_byte w (digit n) ≡ Some n
number_again w n h =
    let low : 48 ≤ 48 + n = omega arith in
    let high : 48 + n ≤ 48 + w = omega arith in
    let back : (48 + n) - 48 ≡ n = omega arith in
    rw (le-leb _ _ low, le-leb _ _ high, back) refl

-- bytes that are read are the digits of their numbers
numbers_taken : (w : ℕ) (text ns : List ℕ) → numbers_in w text ≡ Some ns
    → AllByRecursion (λ n. n ≤ w) ns × (text ≡ map digit ns)
numbers_taken w [] ns = λ read.
    let e : [] ≡ ns = cc in subst (λ (xs : List ℕ). AllByRecursion (λ n. n ≤ w) xs × ([] ≡ map digit xs)) e (tt, refl)
numbers_taken w (b ∷ bs) ns =
    elim (number_of_byte w b) as
    (λ o. number_of_byte w b ≡ o → option_and_then (λ n. option_map (λ xs. n ∷ xs) (numbers_in w bs)) o ≡ Some ns
    → AllByRecursion (λ n. n ≤ w) ns × (b ∷ bs ≡ map digit ns)) [
      | None ↦ λ is read. cc
      | Some n ↦ λ is. elim (numbers_in w bs) as
          (λ o. numbers_in w bs ≡ o → option_map (λ xs. n ∷ xs) o ≡ Some ns
          → AllByRecursion (λ n. n ≤ w) ns × (b ∷ bs ≡ map digit ns)) [
            | None ↦ λ are read. cc
            | Some xs ↦ λ are read.
                let first = number_taken w b n is in
                let rest = numbers_taken w bs xs are in
                let e : n ∷ xs ≡ ns = cc in
                subst (λ (ys : List ℕ). AllByRecursion (λ n. n ≤ w) ys × (b ∷ bs ≡ map digit ys)) e
                ((first.0, rest.0), ap (λ x. x ∷ bs) first.1 ∙ ap (λ xs. digit n ∷ xs) rest.1)
          ] refl
    ] refl

-- the digits of numbers are read as the numbers
numbers_again : (w : ℕ) (ns : List ℕ) → AllByRecursion (λ n. n ≤ w) ns → numbers_in w (map digit ns) ≡ Some ns
numbers_again w [] h = refl
numbers_again w (n ∷ ns) h = rw (number_again w n h.0, numbers_again w ns h.1) refl

-- the text describes the puzzle, which is of the width
abbrev Described : ℕ → List ℕ → GridValue → Type 0
Described w text p = (text ≡ latin_desc p) × IsGrid p × (p.size ≡ w)

-- the digits of numbers of the width describe the puzzle of these numbers
described : (w : ℕ) (text ns : List ℕ) (p : GridValue) → 3 ≤ w → w ≤ 9 → length text ≡ w * w
    → AllByRecursion (λ n. n ≤ w) ns × (text ≡ map digit ns) → record { size = w; numbers = ns } ≡ p
    → Described w text p
described w text ns p low high count read e =
    let long : length ns ≡ w * w = sym (length-map ns digit) ∙ (ap length (sym read.1) ∙ count) in
    let is_grid : IsGrid (record { size = w; numbers = ns }) = record {
      smallest = low;
      largest = high;
      count = long;
      within = All-from_recursion (λ n. n ≤ w) ns read.0;
    } in
    subst (Described w text) e (read.1, is_grid, refl)

-- bytes that are read describe the puzzle
givens_taken : (w : ℕ) (text : List ℕ) (p : GridValue) → 3 ≤ w → w ≤ 9 → length text ≡ w * w → givens_in w text ≡ Ok p
    → Described w text p
givens_taken w text p low high count =
    elim (numbers_in w text) as
    (λ o. numbers_in w text ≡ o
    → ok_or (option_map (λ ns. let r : GridValue = record { size = w; numbers = ns } in r) o) BadSquares ≡ Ok p
    → Described w text p) [
      | None ↦ λ are read. cc
      | Some ns ↦ λ are read.
          let e : record { size = w; numbers = ns } ≡ p = cc in
          described w text ns p low high count (numbers_taken w text ns are) e
    ] refl

-- what is read is described by the text, and a puzzle of the width
pub latin_taken : (w : ℕ) (text : List ℕ) (p : GridValue) → 3 ≤ w → w ≤ 9 → latin_at w text ≡ Ok p
    → (text ≡ latin_desc p) × IsGrid p × (p.size ≡ w)
unfolding latin_at
latin_taken w text p low high =
    elim (exactly (w * w) text) as
    (λ (r : Result (List ℕ) IdFault). exactly (w * w) text ≡ r → (r >>= givens_in w) ≡ Ok p → Described w text p) [
      | Err fault ↦ λ is read. cc
      | Ok bytes ↦ λ is read.
          let taken = exactly_taken (w * w) text bytes is in
          givens_taken w text p low high taken.1 (rw taken.0 read)
    ] refl

-- what describes a puzzle is read as that puzzle
pub latin_again : (text : List ℕ) (p : GridValue) → IsGrid p → text ≡ latin_desc p → latin_at p.size text ≡ Ok p
unfolding latin_at
latin_again text p h is =
    let count : length (latin_desc p) ≡ p.size * p.size = length-map p.numbers digit ∙ h.count in
    let within = recursion_from_All (λ n. n ≤ p.size) p.numbers h.within in
    rw (is, exactly_again (p.size * p.size) (latin_desc p) count, numbers_again p.size p.numbers within) refl

-- the bytes of squares are never refused for want of memory
givens_not_for_memory : (w : ℕ) (text : List ℕ) → NotForMemory (givens_in w text)
givens_not_for_memory w text =
    elim (numbers_in w text) as
    (λ o. NotForMemory
    (ok_or (option_map (λ ns. let r : GridValue = record { size = w; numbers = ns } in r) o) BadSquares)) [
      | None ↦ λ e. cc
      | Some ns ↦ tt
    ]

-- a text is never refused for want of memory
pub latin_not_for_memory : (w : ℕ) (text : List ℕ) → NotForMemory (latin_at w text)
unfolding latin_at
latin_not_for_memory w text =
    not_for_memory-then (exactly (w * w) text) (givens_in w)
    (not_for_memory-if {A = List ℕ} (nat_lt (length text) (w * w)) (Err TooFew) _ (λ e. cc)
    (not_for_memory-if {A = List ℕ} (nat_lt (w * w) (length text)) (Err TooMany) (Ok text) (λ e. cc) tt))
    (givens_not_for_memory w)

-- the written form describes its puzzle
pub latin_canonical : (p : GridValue) → IsGrid p → latin_desc p ≡ latin_desc p
latin_canonical p h = refl
