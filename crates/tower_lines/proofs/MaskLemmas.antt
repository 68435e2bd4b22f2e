-- Masks of lists: one value more or less, the one mask of a list, the mask that each start has.
use Rattle.std.proofs.lemmas.Bool.Decides.{nat_tests}
use Rattle.std.proofs.Common.{◌≡◌, ◌≢◌, ℕ, ◌+◌, ◌-◌, ◌^◌, ◌<◌, ◌≤◌, inl, inr, true, false, ◌||◌, eqb, ltb, cond, List, [], ◌∷◌, ◌++◌, length, refl, sym, ap, ◌∙◌, arith, append_assoc, count_ones}
use Rattle.std.specs.List.{list_all}
use Rattle.std.proofs.lemmas.Bool.{eq-eqb, ne_eqb, lt-ltb, le-ltb, cases_eq, cases_lt, cases_Bool, false≢true, both_ways}
use Rattle.std.proofs.Math.Bool.{or-true, or-false, and-false}
use Rattle.std.proofs.lemmas.Nat.{pow_pos, ones_le_self}
use Rattle.std.proofs.lemmas.List.{append-nil, length_push}
use Rattle.std.proofs.lemmas.List.Folds.{list_any-append}
use Rattle.tower_lines.specs.TowersSeen.{seen, seen_after}
use Rattle.number_sets.specs.Sets.{has_number}
use Rattle.tower_lines.specs.LineFillings.{IsStart}
use Rattle.tower_lines.specs.Inner.LineMasks.{is_in, IsMask}
use Rattle.number_sets.proofs.OneMore.{IsAdded, added_with, added_has, added_other, added_ones, added_below}
use Rattle.number_sets.proofs.Members.{has_number-none, below_from_number, below_from_numbers}
use Rattle.tower_lines.proofs.SeenLemmas.{seen-append}
use Rattle.tower_lines.proofs.StartLemmas.{start_next}

-- a list with a value more has what it had, and that value
pub is_in-push : (p : List ℕ) (x y : ℕ) → is_in y (p ++ x ∷ []) ≡ (is_in y p || eqb x y)
is_in-push p x y = list_any-append (λ z. eqb z y) p (x ∷ []) ∙ ap (λ b. is_in y p || b) (or-false (eqb x y))

-- a list has the value that was put at its end
pub is_in-push_same : (p : List ℕ) (x y : ℕ) → x ≡ y → is_in y (p ++ x ∷ []) ≡ true
is_in-push_same p x y e = is_in-push p x y ∙ ap (λ b. is_in y p || b) (eq-eqb x y e) ∙ or-true (is_in y p)

-- a value at the end of a list changes nothing for the other values
pub is_in-push_other : (p : List ℕ) (x y : ℕ) → y ≢ x → is_in y (p ++ x ∷ []) ≡ is_in y p
is_in-push_other p x y ne = is_in-push p x y ∙ ap (λ b. is_in y p || b) (ne_eqb x y (λ e. ne (sym e))) ∙ or-false (is_in y p)

pub mask_none : IsMask 0 []
mask_none = record { bits = λ k. has_number-none k }

-- a value at the end of a list is one bit more in its mask
pub mask_more : {m k n : ℕ} (p : List ℕ) → IsMask m p → IsAdded m k n → IsMask n (p ++ (k + 1) ∷ [])
mask_more {m} {k} {n} p h a = record {
  bits = λ j. elim (cases_eq j k) [
    | inl same ↦ rw same (added_has a ∙ sym (is_in-push_same p (k + 1) (k + 1) refl))
    | inr other ↦ added_other a j other ∙ h.bits j ∙ sym (is_in-push_other p (k + 1) (j + 1) (λ e. other (omega arith)))
  ];
}

-- a list of values up to a width, with its mask
pub record IsMasked (width : ℕ) (p : List ℕ) : Type 0 where
  pub mask : ℕ
  pub used : IsMask mask p
  pub ones : count_ones mask ≡ length p
  pub small : mask < 2 ^ width

masked_along : (sets s q : List ℕ) → IsStart sets (q ++ s) → IsMasked (length sets) q → IsMasked (length sets) (q ++ s)
masked_along sets [] q h b = rw append-nil b
masked_along sets (x ∷ s) q h b =
    let next = start_next q x s h in
    let low = next.low in let high = next.high in
    let e : x ≡ (x - 1) + 1 = omega arith in
    let fresh : has_number b.mask (x - 1) ≡ false = b.used.bits (x - 1) ∙ ap (λ y. is_in y q) (sym e) ∙ next.fresh in
    let a = added_with b.mask (x - 1) (b.mask + 2 ^ (x - 1)) fresh refl in
    let used = mask_more q b.used a in
    let whole : (q ++ x ∷ []) ++ s ≡ q ++ x ∷ s = append_assoc q (x ∷ []) s in
    let more : IsMasked (length sets) (q ++ x ∷ []) = record {
      mask = b.mask + 2 ^ (x - 1);
      used = rw (← e) at used;
      ones = added_ones a ∙ ap (λ n. n + 1) b.ones ∙ sym (length_push q x);
      small = added_below a (length sets) b.small (omega arith);
    } in
    rw whole at (masked_along sets s (q ++ x ∷ []) (rw whole h) more)

-- each start has a mask
pub mask_of : {sets : List ℕ} (p : List ℕ) → IsStart sets p → IsMasked (length sets) p
mask_of {sets} p h = masked_along sets p [] h record {
  mask = 0;
  used = mask_none;
  ones = omega (arith, ones_le_self 0);
  small = pow_pos (length sets);
}

-- all values of a list are lower than k + 1, if it has no value j + 1 with j from k on
all_below : (p : List ℕ) (k : ℕ) → ((j : ℕ) → is_in (j + 1) p ≡ true → j < k) → list_all (λ y. ltb y (k + 1)) p ≡ true
all_below [] k h = refl
all_below (x ∷ p) k h =
    let here : ltb x (k + 1) ≡ true = lt-ltb x (k + 1) (elim (cases_lt 0 x) [
      | inl some ↦ (let e : x ≡ (x - 1) + 1 = omega arith in
          let l = h (x - 1) (ap (λ b. b || is_in (x - 1 + 1) p) (eq-eqb x (x - 1 + 1) e)) in omega arith)
      | inr none ↦ omega arith
    ]) in
    rw here (all_below p k (λ j e. h j (rw e (or-true (eqb x (j + 1))))))

-- not all values of a list are lower than k + 1, if it has a value j + 1 with j from k on
some_above : (p : List ℕ) (k j : ℕ) → k ≤ j → is_in (j + 1) p ≡ true → list_all (λ y. ltb y (k + 1)) p ≡ false
some_above [] k j l e = absurd (false≢true e)
some_above (x ∷ p) k j l e = grind (arith, nat_tests, and-false, some_above p k j l)

-- a value is greater than all of a list where its power of two is greater than the list's mask
pub tower_is : {mask : ℕ} (p : List ℕ) (k : ℕ) → IsMask mask p → list_all (λ y. ltb y (k + 1)) p ≡ ltb mask (2 ^ k)
tower_is {mask} p k h =
    elim (cases_lt mask (2 ^ k)) [
      | inl small ↦ all_below p k (λ j e. below_from_number mask k j small (h.bits j ∙ e)) ∙ sym (lt-ltb mask (2 ^ k) small)
      | inr large ↦ (elim (cases_Bool (list_all (λ y. ltb y (k + 1)) p)) [
        | inl all ↦ absurd (let small = below_from_numbers mask k (λ j l. elim (cases_Bool (is_in (j + 1) p)) [
          | inl e ↦ absurd (both_ways _ (some_above p k j l e) all)
          | inr e ↦ h.bits j ∙ e
        ]) in omega arith)
        | inr some ↦ some ∙ sym (le-ltb mask (2 ^ k) large)
      ])
    ]

-- 1 where the value is greater than all of the mask, and otherwise 0
abbrev pub tower : ℕ → ℕ → ℕ
tower mask k = cond (ltb mask (2 ^ k)) 1 0

-- what is seen from the value k + 1 on: this value if it is above the mask, and what is seen after it
seen-next : {mask : ℕ} (p s : List ℕ) (k : ℕ) → IsMask mask p
    → seen_after p ((k + 1) ∷ s) ≡ tower mask k + seen_after (p ++ (k + 1) ∷ []) s
seen-next p s k h = rw (tower_is p k h) refl

-- with the value k + 1 at its end a list shows a tower more if it is above the mask, and otherwise as many
pub seen-more : {mask : ℕ} (p : List ℕ) (k : ℕ) → IsMask mask p → seen (p ++ (k + 1) ∷ []) ≡ seen p + tower mask k
seen-more p k h = seen-append p ((k + 1) ∷ []) ∙ ap (λ n. seen p + n) (seen-next p [] k h) ∙ omega arith
