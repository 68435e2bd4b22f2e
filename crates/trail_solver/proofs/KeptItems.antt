-- Lists of which only some items are kept, and a puzzle's items as two lists: its clues or signs, and its givens after
-- them.
use Rattle.std.proofs.lemmas.Bool.Decides.{nat_tests}
use Rattle.std.proofs.Common.{◌≡◌, ℕ, zero, suc, ◌+◌, ◌-◌, ◌*◌, ◌<◌, ◌≤◌, Bool, true, false, if◌then◌else◌, nat_lt}
use Rattle.std.proofs.Common.{◌&&◌, List, [], ◌∷◌, length, slice_index, slice_index_or, refl, sym, ap, ◌∙◌, inl, inr, arith}
use Rattle.std.specs.List.{AllByRecursion, All}
use Rattle.std.proofs.lemmas.Bool.{lt-ltb, le-ltb, cases_lt, and_right}
use Rattle.std.proofs.lemmas.List.Elements.{All-from_recursion, recursion_from_All}
use Rattle.latin_board.specs.Squares.{GridValue, IsGrid, IsLatin, number_at}
use Rattle.latin_board.proofs.LatinLines.{latin_full}
use Rattle.trail_solver.specs.Items.{kept_items}

-- ---- one list

-- what is kept of a list is as long as the list
pub length-kept : {X : Type 0} (empty : X) (keep : ℕ → Bool) (i : ℕ) (xs : List X)
    → length (kept_items empty keep i xs) ≡ length xs
length-kept empty keep i [] = refl
length-kept empty keep i (x ∷ xs) = ap suc (length-kept empty keep (i + 1) xs)

same_either : {X : Type 0} (b : Bool) (x : X) → x ≡ (if b then x else x)
same_either true x = refl
same_either false x = refl

-- an entry stays where its item is kept, and is empty otherwise
pub entry-kept : {X : Type 0} (empty : X) (keep : ℕ → Bool) (i : ℕ) (xs : List X) (k j : ℕ) → i + k ≡ j
    → slice_index_or (kept_items empty keep i xs) k empty ≡ (if keep j then slice_index_or xs k empty else empty)
entry-kept empty keep i [] k j e = same_either (keep j) empty
entry-kept empty keep i (x ∷ xs) zero j e = let here : i ≡ j = omega arith in rw here refl
entry-kept empty keep i (x ∷ xs) (suc k) j e = entry-kept empty keep (i + 1) xs k j (omega arith)

-- where all are kept, the list is as it was
pub kept-all : {X : Type 0} (empty : X) (i : ℕ) (xs : List X) → kept_items empty (λ j. true) i xs ≡ xs
kept-all empty i [] = refl
kept-all empty i (x ∷ xs) = ap (λ ys. x ∷ ys) (kept-all empty (i + 1) xs)

both_kept : {X : Type 0} (s t : Bool) (x y : X) → (if t then (if s then x else y) else y) ≡ (if s && t then x else y)
both_kept s t x y = grind (arith, nat_tests)

-- what is kept of what was kept is what both keep
pub kept-kept : {X : Type 0} (empty : X) (first second : ℕ → Bool) (i : ℕ) (xs : List X)
    → kept_items empty second i (kept_items empty first i xs) ≡ kept_items empty (λ j. first j && second j) i xs
kept-kept empty first second i [] = refl
kept-kept empty first second i (x ∷ xs) =
    rw (both_kept (first i) (second i) x empty, kept-kept empty first second (i + 1) xs) refl

-- only the entries that say something matter to what is kept
kept-agrees : {X : Type 0} (empty : X) (present : X → Bool) → ((x : X) → present x ≡ false → x ≡ empty)
    → (a b : ℕ → Bool) (i : ℕ) (xs : List X)
    → ((k : ℕ) → k < length xs → present (slice_index_or xs k empty) ≡ true → a (i + k) ≡ b (i + k))
    → kept_items empty a i xs ≡ kept_items empty b i xs
kept-agrees empty present gone a b i [] h = refl
kept-agrees {X} empty present gone a b i (x ∷ xs) h =
    let first : present x ≡ true → a i ≡ b i =
    λ here. (let e : i + 0 ≡ i = omega arith in rw e at (h 0 (omega arith) here)) in
    rw (
      one_agrees first,
      kept-agrees empty present gone a b (i + 1) xs (λ k inside here. later k (h (suc k) (omega arith) here)),
    ) refl
  where
    one_agrees : (present x ≡ true → a i ≡ b i) → (if a i then x else empty) ≡ (if b i then x else empty)
    one_agrees same =
        elim (present x) as (λ t. present x ≡ t → (if a i then x else empty) ≡ (if b i then x else empty)) [
          | true ↦ λ here. rw (same here) refl
          | false ↦ λ here. rw (gone x here) (sym (same_either (a i) empty) ∙ same_either (b i) empty)
        ] refl

    later : (k : ℕ) → a (i + suc k) ≡ b (i + suc k) → a (i + 1 + k) ≡ b (i + 1 + k)
    later k same = let e : i + 1 + k ≡ i + suc k = omega arith in rw e same

-- the same where the list is numbered from 0
pub kept-same : {X : Type 0} (empty : X) (present : X → Bool) → ((x : X) → present x ≡ false → x ≡ empty)
    → (a b : ℕ → Bool) (xs : List X)
    → ((k : ℕ) → k < length xs → present (slice_index_or xs k empty) ≡ true → a k ≡ b k)
    → kept_items empty a 0 xs ≡ kept_items empty b 0 xs
kept-same empty present gone a b xs h =
    kept-agrees empty present gone a b 0 xs
    (λ k inside here. let back : 0 + k ≡ k = omega arith in rw back (h k inside here))

kept-within : (w : ℕ) (keep : ℕ → Bool) (i : ℕ) (xs : List ℕ) → AllByRecursion (λ n. n ≤ w) xs
    → AllByRecursion (λ n. n ≤ w) (kept_items zero keep i xs)
kept-within w keep i [] h = tt
kept-within w keep i (x ∷ xs) h = (either (keep i) h.0, kept-within w keep (i + 1) xs h.1)
  where
    either : (b : Bool) → x ≤ w → (if b then x else zero) ≤ w
    either true h = h
    either false h = omega arith

-- numbers that were no greater than the width are so still
pub All-kept : (w : ℕ) (keep : ℕ → Bool) (i : ℕ) (xs : List ℕ) → All (λ n. n ≤ w) xs
    → All (λ n. n ≤ w) (kept_items zero keep i xs)
All-kept w keep i xs h =
    All-from_recursion (λ n. n ≤ w) (kept_items zero keep i xs)
    (kept-within w keep i xs (recursion_from_All (λ n. n ≤ w) xs h))

-- a grid of givens is still a grid when only some are kept
pub IsGrid-kept : (g : GridValue) (keep : ℕ → Bool) (i : ℕ) → IsGrid g
    → IsGrid (record { size = g.size; numbers = kept_items zero keep i g.numbers })
IsGrid-kept g keep i h = grind (arith, nat_tests, length-kept, All-kept)

-- a number that is kept is the one that was there
pub kept_number : (keep : ℕ → Bool) (i : ℕ) (xs : List ℕ) (k : ℕ) → 0 < slice_index (kept_items zero keep i xs) k
    → slice_index (kept_items zero keep i xs) k ≡ slice_index xs k
kept_number keep i xs k = grind (arith, nat_tests, entry-kept)

-- a number that is as an item asks is so still when only some items are kept
pub still_asked : (keep : ℕ → Bool) (i : ℕ) (xs : List ℕ) (k number : ℕ)
    → (0 < slice_index xs k → number ≡ slice_index xs k)
    → 0 < slice_index (kept_items zero keep i xs) k → number ≡ slice_index (kept_items zero keep i xs) k
still_asked keep i xs k number asks low =
    let same = kept_number keep i xs k low in asks (omega (arith, low, same)) ∙ sym same

-- where nothing is kept, nothing is asked for
pub none_asked : (i : ℕ) (xs : List ℕ) (k number : ℕ) → 0 < slice_index (kept_items zero (λ j. false) i xs) k
    → number ≡ slice_index (kept_items zero (λ j. false) i xs) k
none_asked i xs k number = rw (entry-kept zero (λ j. false) i xs k (i + k) refl) (λ low. absurd (omega arith))

-- ---- a puzzle's items

-- whether the puzzle has item i: the first n are entries of a list, of which some are empty, the rest givens
abbrev pub has_entry : {X : Type 0} → (X → Bool) → X → ℕ → List X → List ℕ → ℕ → Bool
has_entry present empty n xs givens i =
    if nat_lt i n then present (slice_index_or xs i empty) else nat_lt 0 (slice_index givens (i - n))

-- an item is there where it was there and is kept
pub present_kept : {X : Type 0} (present : X → Bool) (empty : X) → present empty ≡ false → (b : Bool) (x : X)
    → present (if b then x else empty) ≡ (present x && b)
present_kept present empty none true x = elim (present x) as (λ t. t ≡ (t && true)) [ true ↦ refl | false ↦ refl ]
present_kept present empty none false x = none ∙ sym (and_right (present x) false refl)

pub has_entry-kept : {X : Type 0} (present : X → Bool) (empty : X) → present empty ≡ false
    → (n : ℕ) (xs : List X) (givens : List ℕ) (keep : ℕ → Bool) (i : ℕ)
    → has_entry present empty n (kept_items empty keep 0 xs) (kept_items zero keep n givens) i
    ≡ (has_entry present empty n xs givens i && keep i)
has_entry-kept present empty none n xs givens keep i = grind (arith, nat_tests, entry-kept, present_kept)

-- a number that isn't positive is 0
pub not_positive : (n : ℕ) → nat_lt 0 n ≡ false → n ≡ zero
not_positive zero h = refl
not_positive (suc n) h = cc (lt-ltb 0 (suc n) (omega arith))

-- only the items that a puzzle has matter to what is kept of it
pub items_agree : {X : Type 0} (present : X → Bool) (empty : X) → ((x : X) → present x ≡ false → x ≡ empty)
    → (n : ℕ) (xs : List X) (givens : List ℕ) (a b : ℕ → Bool) → length xs ≡ n
    → ((i : ℕ) → i < n + length givens → has_entry present empty n xs givens i ≡ true → a i ≡ b i)
    → (kept_items empty a 0 xs ≡ kept_items empty b 0 xs) × (kept_items zero a n givens ≡ kept_items zero b n givens)
items_agree present empty gone n xs givens a b count same = (
  kept-same empty present gone a b xs (λ k inside here. same k (omega arith) (rw (lt-ltb k n (omega arith)) here)),
  kept-agrees zero (nat_lt 0) not_positive a b n givens (λ k inside here.
      let back : n + k - n ≡ k = omega arith in
      same (n + k) (omega arith) (rw (le-ltb (n + k) n (omega arith), back) here)),
)

-- a puzzle has every item if each entry of its list says something and its givens fill a Latin square
pub has_entry-full : {X : Type 0} (present : X → Bool) (empty : X) (n : ℕ) (xs : List X) (g : GridValue) (i : ℕ)
    → IsLatin g
    → (i < n → present (slice_index_or xs i empty) ≡ true) → i < n + g.size * g.size
    → has_entry present empty n xs g.numbers i ≡ true
has_entry-full present empty n xs g i latin here inside =
    elim (cases_lt i n) [
      | inl low ↦ rw (lt-ltb i n low) (here low)
      | inr high ↦ rw (le-ltb i n high)
          (lt-ltb 0 (number_at g (i - n)) ((latin_full g latin).each (i - n) (omega arith)))
    ]

-- what holds at the widths 3, 4, 5 and 6 holds at each from 3 to 6
pub small_widths : (Holds : ℕ → Type 0) → Holds 3 → Holds 4 → Holds 5 → Holds 6 → (w : ℕ) → 3 ≤ w → w ≤ 6 → Holds w
small_widths Holds three four five six w low high = grind (arith, nat_tests)
