-- Starts of a line: their parts, and one more value at the end.
use Rattle.std.proofs.lemmas.Bool.Decides.{nat_tests}
use Rattle.std.proofs.Common.{◌≡◌, ◌≢◌, ℕ, ◌+◌, ◌<◌, ◌≤◌, inl, inr, true, false, eqb, List, [], ◌∷◌, ◌++◌, length, get_or, refl, sym, ◌∙◌, arith, add-one, length-append}
use Rattle.std.proofs.lemmas.Bool.{eqb-true, eq-eqb, cases_Bool, false≢true, false_from_ne_true, both_ways}
use Rattle.std.proofs.lemmas.List.{get_or_append_left, get_or_at, length_push}
use Rattle.std.proofs.lemmas.List.Folds.{list_any_at}
use Rattle.number_sets.specs.Sets.{has_number}
use Rattle.tower_lines.specs.LineFillings.{IsStart}
use Rattle.tower_lines.specs.Inner.LineMasks.{is_in}

-- the place of a value that is in a list
pub is_in-place : (x : ℕ) (p : List ℕ) → is_in x p ≡ true → (i : ℕ) × (i < length p) × (get_or p i 0 ≡ x)
is_in-place x [] e = absurd (false≢true e)
is_in-place x (y ∷ p) e =
    elim (cases_Bool (eqb y x)) [
      | inl here ↦ (0, omega arith, eqb-true y x here)
      | inr other ↦ (let (i, inside, here) = is_in-place x p (rw other at e) in (i + 1, omega arith, rw add-one here))
    ]

-- a list has each of its entries
pub is_in-at : (x : ℕ) (p : List ℕ) (i : ℕ) → i < length p → get_or p i 0 ≡ x → is_in x p ≡ true
is_in-at x p i l e = list_any_at (λ y. eqb y x) p i 0 l (eq-eqb (get_or p i 0) x e)

-- the front of a start is a start
pub start_front : {sets : List ℕ} (p s : List ℕ) → IsStart sets (p ++ s) → IsStart sets p
start_front {sets} p s h =
    let n = length-append p s in
    let same = λ (j : ℕ) (l : j < length p). get_or_append_left p s 0 j l in
    record {
      room = omega (arith, h.room);
      values = λ j l. rw (same j l) at (h.values j (omega arith));
      candidates = λ j l. rw (same j l) at (h.candidates j (omega arith));
      apart = λ i j o l e. h.apart i j o (omega arith) (same i (omega arith) ∙ e ∙ sym (same j l));
    }

-- a value that a start can have next: a candidate of the next square, from 1 to the length, and not used
pub record IsNextValue (sets p : List ℕ) (v : ℕ) : Type 0 where
  pub room : length p < length sets
  pub low : 1 ≤ v
  pub high : v ≤ length sets
  pub candidate : has_number (get_or sets (length p) 0) v ≡ true
  pub fresh : is_in v p ≡ false

-- the next value of a start that goes on is one that it can have next
pub start_next : {sets : List ℕ} (p : List ℕ) (v : ℕ) (s : List ℕ) → IsStart sets (p ++ v ∷ s) → IsNextValue sets p v
start_next {sets} p v s h =
    let n = length-append p (v ∷ s) in
    let inside : length p < length (p ++ v ∷ s) = omega arith in
    let here : get_or (p ++ v ∷ s) (length p) 0 ≡ v = get_or_at p v s 0 (length p) refl in
    let range = rw here at (h.values (length p) inside) in
    record {
      room = omega (arith, h.room);
      low = range.0;
      high = range.1;
      candidate = rw here at (h.candidates (length p) inside);
      fresh = false_from_ne_true (is_in v p) (λ e.
          let (i, low, there) = is_in-place v p e in
          h.apart i (length p) low inside (get_or_append_left p (v ∷ s) 0 i low ∙ there ∙ sym here));
    }

-- what holds at each place of p, and at the place of v after it, holds at each place of both
push_each : (P : ℕ → ℕ → Type 0) (p : List ℕ) (v : ℕ) → ((j : ℕ) → j < length p → P j (get_or p j 0)) → P (length p) v
    → (j : ℕ) → j < length (p ++ v ∷ []) → P j (get_or (p ++ v ∷ []) j 0)
push_each P p v each last j l = grind (arith, nat_tests, length_push, get_or_append_left, get_or_at)

-- a start with a value more that it can have next is a start
pub start_more : {sets : List ℕ} (p : List ℕ) (v : ℕ) → IsStart sets p → IsNextValue sets p v → IsStart sets (p ++ v ∷ [])
start_more {sets} p v h next =
    record {
      room = omega (arith, length_push p v, next.room);
      values = push_each (λ j x. (1 ≤ x) × (x ≤ length sets)) p v h.values (next.low, next.high);
      candidates = push_each (λ j x. has_number (get_or sets j 0) x ≡ true) p v h.candidates next.candidate;
      apart = λ i j o l. push_each (λ j x. i < j → get_or (p ++ v ∷ []) i 0 ≢ x) p v
          (λ j l o e. h.apart i j o l (sym (get_or_append_left p (v ∷ []) 0 i (omega arith)) ∙ e))
          (λ o e. both_ways (is_in v p) next.fresh (is_in-at v p i o (sym (get_or_append_left p (v ∷ []) 0 i o) ∙ e)))
          j l o;
    }
