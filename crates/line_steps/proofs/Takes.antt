-- Values that are taken away, square by square.
use Rattle.std.proofs.lemmas.Bool.Decides.{nat_tests}
use Rattle.std.proofs.Common.{◌≡◌, ◌≢◌, ◌↔◌, ◌⊎◌, ℕ, ◌+◌, ◌*◌, ◌<◌, ◌≤◌, true, false, not, ◌&&◌, ◌||◌, ◌==◌, Bool, List, [], ◌∷◌, ◌++◌, length, slice_index, inl, inr, refl, sym, ap, ◌∙◌, subst, arith, append_assoc, append-nil, length-append}
use Rattle.std.proofs.lemmas.Bool.{both_ways, and_parts, and_from, or_left, or_right, or_parts, or_from, eq-eqb, eqb-true, cases_eq, cases_Bool, not_from_false, false_from_ne_true}
use Rattle.std.proofs.lemmas.List.Folds.{list_any-append}
use Rattle.std.proofs.lemmas.Nat.{zero_from_ones}
use Rattle.number_sets.specs.Sets.{has_number}
use Rattle.number_sets.proofs.Members.{has_number-none}
use Rattle.latin_board.specs.Lines.{line_cell}
use Rattle.latin_board.proofs.PeerLines.{places_apart}
use Rattle.trail_solver.specs.Pairs.{IsPair, has_pair, pairs_of}
use Rattle.trail_solver.specs.Candidates.{CandidatesValue, IsSetOf, AreCandidates, may_be}
use Rattle.trail_solver.proofs.Removals.{set_below}
use Rattle.trail_solver.proofs.SetPairs.{has_pair-pairs_of, length-pairs_of}
use Rattle.line_steps.specs.Left.{IsLeft, IsFewer, without}
use Rattle.line_steps.specs.Takes.{Strikes, Takes}

-- ---- candidates without some pairs

not_gone : (b : Bool) → not b ≡ true → b ≡ false
not_gone b h = false_from_ne_true b (λ is. both_ways (not b) (ap not is) h)

-- a pair is in one of two lists, one after the other
pub has_pair-append : (ps qs : List (ℕ × ℕ)) (cell value : ℕ) → has_pair (ps ++ qs) cell value ≡ (has_pair ps cell value || has_pair qs cell value)
has_pair-append ps qs cell value = list_any-append _ ps qs

-- what is left without the pairs was left, and is none of them
pub was_left : (c : CandidatesValue) (pairs : List (ℕ × ℕ)) (cell value : ℕ) → IsLeft (without c pairs) cell value
    → IsLeft c cell value × (has_pair pairs cell value ≡ false)
was_left c pairs cell value h =
    let both = or_parts (has_pair c.trail cell value) (has_pair pairs cell value)
    (sym (has_pair-append c.trail pairs cell value) ∙ not_gone (has_pair (c.trail ++ pairs) cell value) h.may) in
    (record { pair = h.pair; may = not_from_false _ both.0 }, both.1)

-- what was left and is none of the pairs is left without them
pub still_left : (c : CandidatesValue) (pairs : List (ℕ × ℕ)) (cell value : ℕ) → IsLeft c cell value → has_pair pairs cell value ≡ false
    → IsLeft (without c pairs) cell value
still_left c pairs cell value h other = grind (arith, nat_tests, not_from_false, has_pair-append, or_from, not_gone)

-- without some pairs fewer are left
pub without_fewer : (c : CandidatesValue) (pairs : List (ℕ × ℕ)) → IsFewer c (without c pairs)
without_fewer c pairs = λ cell value h. (was_left c pairs cell value h).0

-- ---- pairs that are taken

-- what is gone stays gone with more pairs
gone_append : (c : CandidatesValue) (d : CandidatesValue) (ps : List (ℕ × ℕ)) (cell v : ℕ) → d.trail ≡ c.trail ++ ps → may_be c cell v ≡ false → may_be d cell v ≡ false
gone_append c d ps cell v is gone =
    let had : has_pair c.trail cell v ≡ true = elim (cases_Bool (has_pair c.trail cell v)) [
      | inl has ↦ has
      | inr lacks ↦ absurd (both_ways (may_be c cell v) gone (not_from_false (has_pair c.trail cell v) lacks))
    ] in
    let now : has_pair d.trail cell v ≡ true =
    ap (λ (qs : List (ℕ × ℕ)). has_pair qs cell v) is ∙ has_pair-append c.trail ps cell v ∙ or_left (has_pair c.trail cell v) (has_pair ps cell v) had in
    ap not now

-- what is one of the pairs is gone with them
gone_pair : (c d : CandidatesValue) (ps : List (ℕ × ℕ)) (cell v : ℕ) → d.trail ≡ c.trail ++ ps → has_pair ps cell v ≡ true → may_be d cell v ≡ false
gone_pair c d ps cell v is has =
    ap not (ap (λ (qs : List (ℕ × ℕ)). has_pair qs cell v) is ∙ has_pair-append c.trail ps cell v ∙ or_right (has_pair c.trail cell v) (has_pair ps cell v) has)

-- what a row of sets has in the squares of a line
abbrev pub IsInRow : ℕ → ℕ → List ℕ → ℕ → ℕ → Type 0
IsInRow w line row cell v = (k : ℕ) × (k < w) × (cell ≡ line_cell w line k) × (has_number (slice_index row k) v ≡ true)

-- if no pair is of the kind, taking the kind changes nothing
pub takes_none : (Which : ℕ → ℕ → Type 0) (c : CandidatesValue) → ((cell v : ℕ) → Which cell v → ⊥) → Takes Which c c
takes_none Which c none = grind (arith, nat_tests, append-nil)

-- if no pair of the kind is left, taking the kind changes nothing
pub takes_still : (Which : ℕ → ℕ → Type 0) (c : CandidatesValue) → ((cell v : ℕ) → Which cell v → IsLeft c cell v → ⊥) → Takes Which c c
takes_still Which c still = record {
  pairs = [];
  size = refl;
  trail = sym (append-nil c.trail);
  each = λ cell v has. absurd (cc);
  gone = λ cell v pair is. false_from_ne_true (may_be c cell v) (λ may. still cell v is (record { pair = pair; may = may }));
}

-- if two kinds have the same pairs of the size, taking one is taking the other
pub takes_map : (Which More : ℕ → ℕ → Type 0) (c d : CandidatesValue) → ((cell v : ℕ) → Which cell v → More cell v)
    → ((cell v : ℕ) → IsPair c.size cell v → More cell v → Which cell v) → Takes Which c d → Takes More c d
takes_map Which More c d forth back t = grind (arith, nat_tests)

-- taking the pairs of one kind, and then those of another, is taking the pairs of either
pub takes_both : (First Second : ℕ → ℕ → Type 0) (a b c : CandidatesValue) → Takes First a b → Takes Second b c
    → Takes (λ cell v. First cell v ⊎ Second cell v) a c
takes_both First Second a b c t u = record {
  pairs = t.pairs ++ u.pairs;
  size = u.size ∙ t.size;
  trail = u.trail ∙ ap (λ (ps : List (ℕ × ℕ)). ps ++ u.pairs) t.trail ∙ append_assoc a.trail t.pairs u.pairs;
  each = λ cell v has. elim (cases_Bool (has_pair t.pairs cell v)) [
    | inl first ↦ let h = t.each cell v first in (h.0, inl h.1)
    | inr lacks ↦
        let second : has_pair u.pairs cell v ≡ true = elim (cases_Bool (has_pair u.pairs cell v)) [
          | inl is ↦ is
          | inr absent ↦ absurd (both_ways (has_pair (t.pairs ++ u.pairs) cell v) (has_pair-append t.pairs u.pairs cell v ∙ ap (λ b. b || has_pair u.pairs cell v) lacks ∙ absent) has)
        ] in
        let h = u.each cell v second in
        (subst (λ (w : ℕ). IsPair w cell v) t.size h.0, inr h.1)
  ];
  gone = λ cell v pair is. elim is [
    | inl first ↦ gone_append b c u.pairs cell v u.trail (t.gone cell v pair first)
    | inr second ↦ u.gone cell v (subst (λ (w : ℕ). IsPair w cell v) (sym t.size) pair) second
  ];
}

-- striking values in a square takes its pairs with these values
pub takes_struck : (a b : CandidatesValue) (cell values : ℕ) → Strikes a b cell values → Takes (λ c v. (c ≡ cell) × (has_number values v ≡ true)) a b
takes_struck a b cell values s =
    let low = set_below a.size cell s.set s.small (λ v has. (s.left v has).0) in
    record {
      pairs = pairs_of cell s.set;
      size = s.size;
      trail = s.trail;
      each = λ c v has.
          let both = and_parts (c == cell) (has_number s.set v) (sym (has_pair-pairs_of cell s.set c v low) ∙ has) in
          let here : c ≡ cell = eqb-true c cell both.0 in
          (subst (λ (n : ℕ). IsPair a.size n v) (sym here) (s.left v both.1).0, (here, s.some v both.1));
      gone = λ c v pair is.
          let P : ℕ → Type 0 = λ n. may_be b n v ≡ false in
          subst P (sym is.0) (elim (cases_Bool (may_be a cell v)) [
            | inl left ↦
                let in_set = s.all v is.1 (subst (λ (n : ℕ). IsPair a.size n v) is.0 pair) left in
                gone_pair a b (pairs_of cell s.set) cell v s.trail
                (has_pair-pairs_of cell s.set cell v low ∙ and_from (cell == cell) (has_number s.set v) (eq-eqb cell cell refl) in_set)
            | inr gone ↦ gone_append a b (pairs_of cell s.set) cell v s.trail gone
          ]);
    }

-- taking values away that are all left of a square strikes them
pub strikes_whole : (a b : CandidatesValue) (cell values : ℕ) → a.size ≤ 9 → AreCandidates a cell values → b.size ≡ a.size
    → b.trail ≡ a.trail ++ pairs_of cell values → Strikes a b cell values
strikes_whole a b cell values small left size trail = grind (arith, nat_tests)

-- striking the values that a square's set shares with some values strikes those
pub strikes_among : (a b : CandidatesValue) (cell set values struck : ℕ) → IsSetOf a cell set
    → ((n : ℕ) → has_number struck n ≡ (has_number set n && has_number values n)) → Strikes a b cell struck → Strikes a b cell values
strikes_among a b cell set values struck is shared s = record {
  set = s.set;
  small = s.small;
  some = λ v has. (and_parts (has_number set v) (has_number values v) (sym (shared v) ∙ s.some v has)).1;
  left = s.left;
  all = λ v has pair may. s.all v (shared v ∙ and_from (has_number set v) (has_number values v) ((is v).1 (pair, may)) has) pair may;
  size = s.size;
  trail = s.trail;
}

-- the trail grows where something is struck
pub struck_moved : (a b : CandidatesValue) (cell struck : ℕ) → a.size ≤ 9 → AreCandidates a cell struck → b.trail ≡ a.trail ++ pairs_of cell struck
    → (n : ℕ) × (has_number struck n ≡ true) → length b.trail ≡ length a.trail → ⊥
struck_moved a b cell struck small left trail some e =
    let low = set_below a.size cell struck small (λ v has. (left v has).0) in
    let none : struck ≡ 0 = zero_from_ones struck (omega (arith, e, ap length trail, length-append a.trail (pairs_of cell struck), length-pairs_of cell struck low)) in
    both_ways (has_number struck some.0) (ap (λ (n : ℕ). has_number n some.0) none ∙ has_number-none some.0) some.1

-- once square k has lost its values, the first k + 1 squares of a row have lost theirs
pub takes_next : (at : ℕ → ℕ) (Values : ℕ → ℕ → Type 0) (k values : ℕ) (a b c : CandidatesValue)
    → Takes (λ cell v. (j : ℕ) × (j < k) × (cell ≡ at j) × Values j v) a b → Strikes b c (at k) values
    → ((v : ℕ) → IsPair a.size (at k) v → (has_number values v ≡ true) ↔ Values k v)
    → Takes (λ cell v. (j : ℕ) × (j < k + 1) × (cell ≡ at j) × Values j v) a c
takes_next at Values k values a b c t s is =
    let Before : ℕ → ℕ → Type 0 = λ cell v. (j : ℕ) × (j < k) × (cell ≡ at j) × Values j v in
    let Here : ℕ → ℕ → Type 0 = λ cell v. (cell ≡ at k) × (has_number values v ≡ true) in
    let u = takes_both Before Here a b c t (takes_struck b c (at k) values s) in
    record {
      pairs = u.pairs;
      size = u.size;
      trail = u.trail;
      each = λ cell v has.
          let h = u.each cell v has in (
            h.0,
            elim h.1 [
              | inl before ↦ (before.0, omega (arith, before.1), before.2, before.3)
              | inr here ↦ (k, omega arith, here.0, (is v (subst (λ (n : ℕ). IsPair a.size n v) here.0 h.0)).0 here.1)
            ],
          );
      gone = λ cell v pair h. u.gone cell v pair (elim (cases_eq h.0 k) [
        | inl last ↦
            let here : cell ≡ at k = h.2 ∙ ap at last in
            let one : Values k v = subst (λ (j : ℕ). Values j v) last h.3 in
            inr (here, (is v (subst (λ (n : ℕ). IsPair a.size n v) here pair)).1 one)
        | inr other ↦ inl (h.0, omega (arith, h.1, other), h.2, h.3)
      ]);
    }

-- ---- how long the trail is

-- the trail is longer, or as it was
pub record HasMore (c d : CandidatesValue) : Type 0 where
  pub pairs : List (ℕ × ℕ)
  pub size : d.size ≡ c.size
  pub trail : d.trail ≡ c.trail ++ pairs

nil_from_length : (ps : List (ℕ × ℕ)) → length ps ≡ 0 → ps ≡ []
nil_from_length [] e = refl
nil_from_length (p ∷ ps) e = absurd (omega (arith, e))

-- if the trail is as long as it was, nothing changed
pub same_more : (a b : CandidatesValue) → HasMore a b → length b.trail ≡ length a.trail → b ≡ a
same_more a b m e =
    let none : m.pairs ≡ [] = nil_from_length m.pairs (omega (arith, e, ap length m.trail, length-append a.trail m.pairs)) in
    let trail : b.trail ≡ a.trail = m.trail ∙ ap (λ (ps : List (ℕ × ℕ)). a.trail ++ ps) none ∙ append-nil a.trail in
    λ i. record { size = m.size i; trail = trail i }

-- taking pairs makes the trail no shorter
pub takes_length : (Which : ℕ → ℕ → Type 0) (a b : CandidatesValue) → Takes Which a b → length a.trail ≤ length b.trail
takes_length Which a b t = omega (arith, ap length t.trail, length-append a.trail t.pairs)

-- striking values in a square makes the trail no shorter
pub strikes_length : (a b : CandidatesValue) (cell values : ℕ) → Strikes a b cell values → length a.trail ≤ length b.trail
strikes_length a b cell values s = takes_length (λ n v. (n ≡ cell) × (has_number values v ≡ true)) a b (takes_struck a b cell values s)

-- if the trail is as long as it was, no pair was taken
pub takes_same : (Which : ℕ → ℕ → Type 0) (a b : CandidatesValue) → Takes Which a b → length b.trail ≡ length a.trail → b ≡ a
takes_same Which a b t e = same_more a b (record { pairs = t.pairs; size = t.size; trail = t.trail }) e

-- a pair that is left and isn't of the kind stays
pub takes_stays : (Which : ℕ → ℕ → Type 0) (a b : CandidatesValue) (cell v : ℕ) → Takes Which a b → IsLeft a cell v → (Which cell v → ⊥) → IsLeft b cell v
takes_stays Which a b cell v t left other = grind (arith, nat_tests, still_left, false_from_ne_true)

-- taking values from the first k squares of a line leaves square k as it was
pub set_before : (Which : ℕ → ℕ → Type 0) (line k set : ℕ) (a b : CandidatesValue) → line < 2 * a.size
    → Takes (λ cell v. (j : ℕ) × (j < k) × (cell ≡ line_cell a.size line j) × Which j v) a b → IsSetOf b (line_cell a.size line k) set
    → IsSetOf a (line_cell a.size line k) set
set_before Which line k set a b line_is t is v =
    let cell = line_cell a.size line k in
    let Gone : ℕ → ℕ → Type 0 = λ n u. (j : ℕ) × (j < k) × (n ≡ line_cell a.size line j) × Which j u in
    let whole : b ≡ without a t.pairs = λ i. record { size = t.size i; trail = t.trail i } in
    let fewer : IsFewer a b = subst (λ (d : CandidatesValue). IsFewer a d) (sym whole) (without_fewer a t.pairs) in (
      λ has. let h = (is v).0 has in let left = fewer cell v (record { pair = h.0; may = h.1 }) in (left.pair, left.may),
      λ h.
          let left = takes_stays Gone a b cell v t (record { pair = h.0; may = h.1 })
          (λ g. places_apart a.size line k g.0 line_is (λ e. omega (arith, e, g.1)) g.2) in
          (is v).1 (left.pair, left.may),
    )

-- another square's set stays as it was
pub set_apart : (a b : CandidatesValue) (cell other values set : ℕ) → other ≢ cell → Strikes a b cell values → IsSetOf a other set → IsSetOf b other set
set_apart a b cell other values set apart s is v =
    let Gone : ℕ → ℕ → Type 0 = λ n u. (n ≡ cell) × (has_number values u ≡ true) in
    let t : Takes Gone a b = takes_struck a b cell values s in
    let whole : b ≡ without a t.pairs = λ i. record { size = t.size i; trail = t.trail i } in
    let fewer : IsFewer a b = subst (λ (d : CandidatesValue). IsFewer a d) (sym whole) (without_fewer a t.pairs) in (
      λ has.
          let h = (is v).0 has in
          let left = takes_stays Gone a b other v t (record { pair = h.0; may = h.1 }) (λ g. apart g.0) in
          (left.pair, left.may),
      λ h. let left = fewer other v (record { pair = h.0; may = h.1 }) in (is v).1 (left.pair, left.may),
    )
