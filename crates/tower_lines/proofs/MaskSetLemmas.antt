-- Sets of masks as words of 64 masks each: a word's masks one bit up or down, a set from its words.
use Rattle.std.proofs.lemmas.Bool.Decides.{nat_tests}
use Rattle.std.proofs.Common.{◌≡◌, ◌≢◌, ℕ, ◌+◌, ◌-◌, ◌*◌, ◌/◌, ◌%◌, ◌^◌, ◌<◌, ◌≤◌, ◌↔◌, inl, inr, Bool, true, false, not, ◌&&◌, eqb, leb, ltb, List, [], ◌∷◌, length, get_or, set, replicate, refl, sym, ap, ◌∙◌, arith, bit_and, count_ones, w64}
use Rattle.std.specs.Bool.{MatchBool}
use Rattle.std.specs.Int.{bit_not, trailing_zeros}
use Rattle.std.proofs.lemmas.Bool.{agree_below, agree_below_at, cases_Bool, cases_eq, ne_eqb, ltb-true}
use Rattle.std.proofs.Math.Bool.{and-true, and-false, and_comm}
use Rattle.std.proofs.lemmas.Nat.{shl-shr, mod_below, one_shl}
use Rattle.std.proofs.lemmas.Nat.Bits.{bit_at_not, bit_at_lowest, bit_at-trailing_zeros}
use Rattle.std.proofs.lemmas.List.{get_or-set_same, get_or-set_other, get_or_past, length-replicate, get_or-replicate}
use Rattle.number_sets.specs.Sets.{has_number}
use Rattle.number_sets.proofs.Members.{bit-from_number, bit-from_no_number, number-from_bit, no_number-from_bit, has_number-none, has_number-and, has_number-shr, has_number-mod, has_number-one, power_most}
use Rattle.number_sets.proofs.OneMore.{added_with, added_below}
use Rattle.tower_lines.specs.Inner.MaskSets.{has_mask}

-- ---- a mask's place: its word, and its bit in the word

word_of : (i b : ℕ) → b < 64 → (64 * i + b) / 64 ≡ i
word_of i b h = omega arith

bit_of : (i b : ℕ) → b < 64 → (64 * i + b) % 64 ≡ b
bit_of i b h = omega arith

-- a mask is in the set where the bit of its word is set
pub has_mask-at : (words : List ℕ) (i b : ℕ) → b < 64 → has_mask words (64 * i + b) ≡ has_number (get_or words i 0) b
has_mask-at words i b h = rw (word_of i b h, bit_of i b h) refl

-- ---- a word's masks with a bit that they lack, and without one that they have

-- a word of all masks below 64 that have the bit
abbrev pub with_bit : ℕ → ℕ
with_bit k = get_or (12297829382473034410 ∷ 14757395258967641292 ∷ 17361641481138401520 ∷ 18374966859414961920 ∷ 18446462603027742720 ∷ 18446744069414584320 ∷ []) k 0

has_number-with_bit : (k b : ℕ) → k < 6 → b < 64 → has_number (with_bit k) b ≡ has_number b k
has_number-with_bit k b h l =
    let all : agree_below (λ n. has_number (with_bit k) n) (λ n. has_number n k) 64 ≡ true =
    agree_below_at (λ j. agree_below (λ n. has_number (with_bit j) n) (λ n. has_number n j) 64) (λ j. true) 6 k refl h in
    agree_below_at (λ n. has_number (with_bit k) n) (λ n. has_number n k) 64 b all l

with_bit_small : (k : ℕ) → k < 6 → with_bit k < 2 ^ 64
with_bit_small k h = ltb-true _ _ (agree_below_at (λ j. ltb (with_bit j) 18446744073709551616) (λ j. true) 6 k refl h)

-- a word moved up by s has at each bit what was s bits below
has_number-up : (w s b : ℕ) → s ≤ b → b < 64 → has_number (w * 2 ^ s % 2 ^ 64) b ≡ has_number w (b - s)
has_number-up w s b most h =
    let e : s + (b - s) ≡ b = omega arith in
    has_number-mod (w * 2 ^ s) 64 b h ∙ ap (has_number (w * 2 ^ s)) (sym e)
    ∙ sym (has_number-shr (w * 2 ^ s) s (b - s)) ∙ ap (λ n. has_number n (b - s)) (shl-shr w s)

-- a word moved up by 2 ^ k, cut to the masks with bit k, has those that were there without this bit
pub raised_word : (w k b : ℕ) → k < 6 → b < 64
    → has_number (bit_and (w * 2 ^ (2 ^ k) % 2 ^ 64) (with_bit k)) b ≡ (has_number b k && has_number w (b - 2 ^ k))
raised_word w k b small h =
    grind (arith, nat_tests, has_number-and, has_number-with_bit, has_number-up, power_most, and-true, and-false)

has_number-not : (n b : ℕ) → n < 2 ^ 64 → b < 64 → has_number (bit_not w64 n) b ≡ not (has_number n b)
has_number-not n b small h =
    let flipped = bit_at_not w64 n b small h in
    elim (cases_Bool (has_number n b)) [
      | inl e ↦ (let one = bit-from_number n b e in rw e (no_number-from_bit (bit_not w64 n) b (omega (arith, flipped))))
      | inr e ↦ (let none = bit-from_no_number n b e in rw e (number-from_bit (bit_not w64 n) b (omega (arith, flipped))))
    ]

-- a word cut to what another lacks has the masks of the first that the second doesn't have
pub has_number-lacks : (a n b : ℕ) → n < 2 ^ 64 → b < 64
    → has_number (bit_and a (bit_not w64 n)) b ≡ (has_number a b && not (has_number n b))
has_number-lacks a n b small h = has_number-and a (bit_not w64 n) b ∙ ap (λ t. has_number a b && t) (has_number-not n b small h)

-- a word moved down by s has at each bit what was s bits above
has_number-down : (w s b : ℕ) → has_number (w / 2 ^ s) b ≡ has_number w (b + s)
has_number-down w s b = let e : s + b ≡ b + s = omega arith in has_number-shr w s b ∙ ap (has_number w) e

-- a word moved down by 2 ^ k, cut to the masks without bit k, has those that were there with this bit
pub lowered_word : (w k b : ℕ) → k < 6 → b < 64
    → has_number (bit_and (w / 2 ^ (2 ^ k)) (bit_not w64 (with_bit k))) b ≡ (not (has_number b k) && has_number w (b + 2 ^ k))
lowered_word w k b small h =
    grind (arith, nat_tests, has_number-lacks, with_bit_small, has_number-with_bit, has_number-down, and_comm)

-- ---- the bit below 6: the mask stays in its word

pub word_with_low : (words : List ℕ) (k m place : ℕ) → k < 6 → place ≡ k
    → has_number (bit_and (get_or words (m / 64) 0 * 2 ^ (1 * 2 ^ k % 2 ^ 32) % 2 ^ 64) (with_bit place)) (m % 64) ≡ (has_number m k && has_mask words (m - 2 ^ k))
word_with_low words k m place low is =
    rw (is, one_shl k 32 (omega arith), ← has_number-mod m 6 k low, raised_word (get_or words (m / 64) 0) k (m % 64) low (mod_below m 64 (omega arith)))
    (elim (cases_Bool (has_number (m % 64) k)) [
      | inl e ↦ (let most = power_most (m % 64) k e in
          let word : (m - 2 ^ k) / 64 ≡ m / 64 = omega arith in
          let bit : (m - 2 ^ k) % 64 ≡ m % 64 - 2 ^ k = omega arith in
          rw (word, bit) refl)
      | inr e ↦ rw e refl
    ])

pub word_without_low : (words : List ℕ) (k m place : ℕ) → k < 6 → place ≡ k
    → has_number (bit_and (get_or words (m / 64) 0 / 2 ^ (1 * 2 ^ k % 2 ^ 32)) (bit_not w64 (with_bit place))) (m % 64)
    ≡ (not (has_number m k) && has_mask words (m + 2 ^ k))
word_without_low words k m place low is =
    rw (is, one_shl k 32 (omega arith), ← has_number-mod m 6 k low, lowered_word (get_or words (m / 64) 0) k (m % 64) low (mod_below m 64 (omega arith)))
    (elim (cases_Bool (has_number (m % 64) k)) [
      | inl e ↦ rw e refl
      | inr e ↦ (let more : m % 64 + 2 ^ k < 64 = added_below (added_with (m % 64) k (m % 64 + 2 ^ k) e refl) 6 (mod_below m 64 (omega arith)) low in
          let word : (m + 2 ^ k) / 64 ≡ m / 64 = omega arith in
          let bit : (m + 2 ^ k) % 64 ≡ m % 64 + 2 ^ k = omega arith in
          rw (word, bit) refl)
    ])

-- ---- the tables, whose rows are sets of two words

-- row k of the table has exactly the masks below 128 that pass the test of k
abbrev are_rows : List (List ℕ) → (ℕ → ℕ → Bool) → Bool
are_rows table test = agree_below (λ k. agree_below (λ m. has_mask (get_or table k []) m) (λ m. test k m) 128) (λ k. true) 9

row_has : (table : List (List ℕ)) (test : ℕ → ℕ → Bool) → are_rows table test ≡ true → (k m : ℕ) → k < 9 → m < 128
    → has_mask (get_or table k []) m ≡ test k m
row_has table test all k m few small =
    agree_below_at (λ n. has_mask (get_or table k []) n) (λ n. test k n) 128 m
    (agree_below_at (λ j. agree_below (λ n. has_mask (get_or table j []) n) (λ n. test j n) 128) (λ j. true) 9 k all few) small

-- the masks that have so many values
abbrev counts : List (List ℕ)
counts = (1 ∷ 0 ∷ []) ∷ (4295033110 ∷ 1 ∷ []) ∷ (282668995843688 ∷ 4295033110 ∷ []) ∷ (78274679833913472 ∷ 282668995843688 ∷ []) ∷ (1614655367130677248 ∷ 78274679833913472 ∷ []) ∷ (7530159316599308288 ∷ 1614655367130677248 ∷ []) ∷ (9223372036854775808 ∷ 7530159316599308288 ∷ []) ∷ (0 ∷ 9223372036854775808 ∷ []) ∷ (0 ∷ 0 ∷ []) ∷ []

-- the words of the masks that have so many values
abbrev pub with_count : ℕ → List ℕ
with_count count = get_or counts count []

pub with_count_has : (count m : ℕ) → count < 9 → m < 128 → has_mask (with_count count) m ≡ eqb (count_ones m) count
unfolding lib.Count.ones
with_count_has count m few small = row_has counts (λ k n. eqb (count_ones n) k) refl count m few small

-- the masks that are below a power of two
abbrev bounds : List (List ℕ)
bounds = (1 ∷ 0 ∷ []) ∷ (3 ∷ 0 ∷ []) ∷ (15 ∷ 0 ∷ []) ∷ (255 ∷ 0 ∷ []) ∷ (65535 ∷ 0 ∷ []) ∷ (4294967295 ∷ 0 ∷ []) ∷ (18446744073709551615 ∷ 0 ∷ []) ∷ (18446744073709551615 ∷ 18446744073709551615 ∷ []) ∷ (18446744073709551615 ∷ 18446744073709551615 ∷ []) ∷ []

-- the words of the masks that are below 2 ^ k
abbrev pub below_bit : ℕ → List ℕ
below_bit k = get_or bounds k []

-- the table's row k has exactly the masks below 2 ^ k
pub below_bit_has : (k m : ℕ) → k < 9 → m < 128 → has_mask (below_bit k) m ≡ ltb m (2 ^ k)
below_bit_has k m few small = row_has bounds (λ j n. ltb n (2 ^ j)) refl k m few small

not_below : (m n : ℕ) → not (ltb m n) ≡ leb n m
not_below m n = grind (arith, nat_tests)

pub above_bit_has : (k m : ℕ) → k < 9 → m < 128 → not (has_mask (below_bit k) m) ≡ leb (2 ^ k) m
above_bit_has k m few small = ap not (below_bit_has k m few small) ∙ not_below m (2 ^ k)

-- ---- a set from its words

-- after its last word a set has no mask
pub has_mask-past : (words : List ℕ) (m : ℕ) → 64 * length words ≤ m → has_mask words m ≡ false
has_mask-past words m h = grind (arith, nat_tests, get_or_past, has_number-none)

has_mask-none : (n m : ℕ) → has_mask (replicate n 0) m ≡ false
has_mask-none n m = grind (arith, nat_tests, get_or-replicate, has_number-none, length-replicate, has_mask-past)

-- a set whose word i was written has there the masks of the new word, and elsewhere those that it had
has_mask-set_same : (words : List ℕ) (i w m : ℕ) → i < length words → m / 64 ≡ i → has_mask (set words i w) m ≡ has_number w (m % 64)
has_mask-set_same words i w m inside same = rw (same, get_or-set_same words i w 0 inside) refl

has_mask-set_other : (words : List ℕ) (i w m : ℕ) → m / 64 ≢ i → has_mask (set words i w) m ≡ has_mask words m
has_mask-set_other words i w m other = rw (get_or-set_other words i (m / 64) w 0 other) refl

pub start_has : (n m : ℕ) → 0 < n → has_mask (set (replicate n 0) 0 1) m ≡ eqb m 0
start_has n m some =
    let room : length (replicate {A = ℕ} n 0) ≡ n = length-replicate n 0 in
    elim (cases_eq (m / 64) 0) [
      | inl here ↦ (let e : m % 64 ≡ m = omega arith in
          has_mask-set_same (replicate n 0) 0 1 m (omega arith) here ∙ ap (has_number 1) e ∙ has_number-one 0 m)
      | inr other ↦ has_mask-set_other (replicate n 0) 0 1 m other ∙ has_mask-none n m
          ∙ sym (ne_eqb m 0 (λ e. other (rw e refl)))
    ]

-- a set has exactly the masks that pass a test, if this is so within its words and no mask past them passes
pub words_have : (test : ℕ → Bool) (words : List ℕ) (n : ℕ) → length words ≡ n → ((m : ℕ) → m / 64 < n → has_mask words m ≡ test m)
    → ((m : ℕ) → 64 * n ≤ m → test m ≡ false) → (m : ℕ) → has_mask words m ≡ test m
words_have test words n room here past m = grind (arith, nat_tests, has_mask-past)

-- a mask past the words isn't one inside with a low bit more
pub with_past_low : (words : List ℕ) (n k m : ℕ) → length words ≡ n → k < 6 → 64 * n ≤ m → (has_number m k && has_mask words (m - 2 ^ k)) ≡ false
with_past_low words n k m room low past =
    elim (cases_Bool (has_number m k)) [
      | inl e ↦ (let most = power_most (m % 64) k (has_number-mod m 6 k low ∙ e) in
          rw e (has_mask-past words (m - 2 ^ k) (omega (arith, room, past, most))))
      | inr e ↦ rw e refl
    ]

-- ---- the last bit of a set of two words: the masks of the second word have it

has_last : (m : ℕ) → has_number m 6 ≡ has_number (m / 64) 0
has_last m = sym (has_number-shr m 6 0)

pub with_last_has : (words : List ℕ) (n m : ℕ) → n ≡ 2 → length words ≡ n
    → has_mask (set (replicate n 0) 1 (get_or words 0 0)) m ≡ (has_number m 6 && has_mask words (m - 2 ^ 6))
with_last_has words n m two long =
    grind (
      arith,
      nat_tests,
      length-replicate,
      has_mask-set_same,
      has_last,
      has_mask-set_other,
      has_mask-none,
      bit_at_lowest,
      bit-from_number,
      has_mask-past,
    )

pub without_last_has : (words : List ℕ) (n m : ℕ) → n ≡ 2 → length words ≡ n
    → has_mask (set (replicate n 0) 0 (get_or words 1 0)) m ≡ (not (has_number m 6) && has_mask words (m + 2 ^ 6))
without_last_has words n m two long =
    grind (
      arith,
      nat_tests,
      length-replicate,
      has_mask-set_same,
      has_last,
      has_mask-set_other,
      has_mask-none,
      has_mask-past,
    )

-- two tests that agree on the masks of two words take the same masks out of a set of two words at most
pub same_taken : (words : List ℕ) (test other : ℕ → Bool) (n : ℕ) → length words ≡ n → n ≤ 2 → ((m : ℕ) → m < 128 → test m ≡ other m)
    → (m : ℕ) → (has_mask words m && test m) ≡ (has_mask words m && other m)
same_taken words test other n room small agree m = grind (arith, nat_tests, has_mask-past)

-- a set has a mask where a word of it is not 0
pub some_mask : (words : List ℕ) (i : ℕ) → get_or words i 0 ≢ 0 → get_or words i 0 < 2 ^ 64 → (m : ℕ) × (has_mask words m ≡ true)
some_mask words i some small =
    let w = get_or words i 0 in
    let p : 0 < w = omega arith in
    let found = bit_at-trailing_zeros w64 w p small in
    (64 * i + trailing_zeros w64 w, has_mask-at words i (trailing_zeros w64 w) found.0 ∙ number-from_bit w (trailing_zeros w64 w) found.1)

-- ---- whole sets

-- a set that isn't empty has a mask
pub not_empty : (masks : List ℕ) (empty : Bool) → MatchBool empty ((m : ℕ) → has_mask masks m ≡ false) ((m : ℕ) × (has_mask masks m ≡ true))
    → (not empty ≡ true) ↔ ((m : ℕ) × (has_mask masks m ≡ true))
not_empty masks empty test = grind (arith, nat_tests)
