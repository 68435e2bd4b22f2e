-- The levels of starts: to which level one more value leads, and that each front of a filling is at a level.
use Rattle.std.proofs.lemmas.Bool.Decides.{nat_tests}
use Rattle.std.proofs.Common.{◌≡◌, ℕ, ◌+◌, ◌-◌, ◌^◌, ◌<◌, ◌≤◌, ◌↔◌, inl, inr, true, false, ◌||◌, eqb, ltb, List, [], ◌∷◌, ◌++◌, length, get_or, refl, sym, ap, ◌∙◌, arith, append_assoc}
use Rattle.std.specs.List.{list_all}
use Rattle.std.proofs.lemmas.Bool.{eqb-true, eq-eqb, ne_eqb, lt-ltb, le-ltb, cases_eq, cases_lt, cases_Bool, false≢true, or_left}
use Rattle.std.proofs.Math.Bool.{or-false}
use Rattle.std.proofs.lemmas.List.{nil_from_length}
use Rattle.std.proofs.lemmas.List.Folds.{list_all_at, list_any-append}
use Rattle.tower_lines.specs.TowersSeen.{seen, seen_after}
use Rattle.number_sets.specs.Sets.{has_number}
use Rattle.tower_lines.specs.LineFillings.{IsStart, IsFilling}
use Rattle.tower_lines.specs.Inner.LineMasks.{is_in}
use Rattle.tower_lines.specs.Inner.Levels.{LacksLeast, Within, Hidden, Shown, First, Later, IsLowMask, IsAtLevel, IsLevelStep, Greatest, Least, Between}
use Rattle.number_sets.proofs.Members.{has_number-below}
use Rattle.tower_lines.proofs.LowMaskLemmas.{low_mask_of, low_unique, low_bit, low_more, low_same, whole_of, whole_half, tower_half, least_tells, least_told, rest_low, rest_last}
use Rattle.tower_lines.proofs.MaskLemmas.{is_in-push, is_in-push_same, tower_is, tower, seen-more}
use Rattle.tower_lines.proofs.SeenLemmas.{seen-append, seen-push}
use Rattle.tower_lines.proofs.StartLemmas.{is_in-place, start_front, start_next, start_more}
use Rattle.tower_lines.proofs.WholeLines.{whole_mask}

-- ---- what is seen before and after the greatest value

-- a list that has n hides each value up to n that comes after it
hidden_after : (p : List ℕ) (n x : ℕ) → is_in n p ≡ true → x ≤ n → list_all (λ y. ltb y x) p ≡ false
hidden_after p n x has most = grind (arith, nat_tests, is_in-place, list_all_at)

-- nothing is seen after the greatest value of the line
none_seen : {sets : List ℕ} (p s : List ℕ) → IsStart sets (p ++ s) → is_in (length sets) p ≡ true → seen_after p s ≡ 0
none_seen {sets} p [] start has = refl
none_seen {sets} p (x ∷ s) start has =
    let whole : (p ++ x ∷ []) ++ s ≡ p ++ x ∷ s = append_assoc p (x ∷ []) s in
    let hidden = hidden_after p (length sets) x has (start_next p x s start).high in
    let rest = none_seen (p ++ x ∷ []) s (rw whole start) (is_in-push p x (length sets) ∙ or_left _ _ has) in
    rw hidden (omega (arith, rest))

-- all values of a start that lacks the greatest are lower than it
all_lower : {sets : List ℕ} (p : List ℕ) → 0 < length sets → IsStart sets p → is_in (length sets) p ≡ false
    → list_all (λ y. ltb y (length sets)) p ≡ true
all_lower {sets} p some start lacks =
    let n = length sets in
    let w = whole_of p start lacks in
    let e : (n - 1) + 1 ≡ n = omega arith in
    rw e at (tower_is p (n - 1) w.used ∙ lt-ltb w.mask (2 ^ (n - 1)) w.small)

-- some tower is seen after a start that lacks the greatest value if this comes later
some_seen : {sets : List ℕ} (p s : List ℕ) → 0 < length sets → IsStart sets (p ++ s) → is_in (length sets) p ≡ false → is_in (length sets) s ≡ true
    → 0 < seen_after p s
some_seen {sets} p [] some start lacks has = absurd (false≢true has)
some_seen {sets} p (x ∷ s) some start lacks has =
    let n = length sets in
    elim (cases_Bool (eqb x n)) [
      | inl here ↦ (let tower : list_all (λ y. ltb y x) p ≡ true = rw (eqb-true x n here) (all_lower p some (start_front p (x ∷ s) start) lacks) in
          rw tower (omega arith))
      | inr other ↦ (let whole : (p ++ x ∷ []) ++ s ≡ p ++ x ∷ s = append_assoc p (x ∷ []) s in
          let lacks' : is_in n (p ++ x ∷ []) ≡ false = is_in-push p x n ∙ rw (lacks, other) refl in
          let rest = some_seen (p ++ x ∷ []) s some (rw whole start) lacks' (rw other at has) in
          omega (arith, rest))
    ]

-- a start with as many values as the line has squares has the greatest
pub has_greatest : {sets : List ℕ} (line : List ℕ) → 0 < length sets → IsStart sets line → length line ≡ length sets → is_in (length sets) line ≡ true
has_greatest {sets} line some start whole =
    let n = length sets in
    let e : (n - 1) + 1 ≡ n = omega arith in
    rw e at (sym ((whole_mask line start whole).bits (n - 1)) ∙ has_number-below n (n - 1) ∙ lt-ltb (n - 1) n (omega arith))

-- ---- one value more at the end

tower_one : (mask k : ℕ) → mask < 2 ^ k → tower mask k ≡ 1
tower_one mask k small = rw (lt-ltb mask (2 ^ k) small) refl

tower_none : (mask k : ℕ) → 2 ^ k ≤ mask → tower mask k ≡ 0
tower_none mask k large = rw (le-ltb mask (2 ^ k) large) refl

-- a start without the greatest value shows a tower more with a value above its mask, and otherwise none
shown_more : {sets : List ℕ} {mask : ℕ} (p : List ℕ) (k bit : ℕ) → k ≡ bit + 1 → IsStart sets p → is_in (length sets) p ≡ false
    → IsLowMask (length sets) mask p → seen (p ++ (k + 1) ∷ []) ≡ seen p + tower mask bit
shown_more {sets} {mask} p k bit is start lacks used =
    let w = whole_of p start lacks in
    seen-more p k w.used ∙ ap (λ n. seen p + n) (tower_half w.mask mask k bit is (whole_half p start lacks used w))

-- a start without the greatest value shows a tower more with it
shown_last : {sets : List ℕ} (p : List ℕ) (k : ℕ) → k + 1 ≡ length sets → IsStart sets p → is_in (length sets) p ≡ false
    → seen (p ++ (k + 1) ∷ []) ≡ seen p + 1
shown_last {sets} p k is start lacks =
    let w = whole_of p start lacks in
    let e : length sets - 1 ≡ k = omega arith in
    let small : w.mask < 2 ^ k = rw e at w.small in
    seen-more p k w.used ∙ ap (λ n. seen p + n) (tower_one w.mask k small)

-- the first value of a line is seen
shown_first : (p : List ℕ) (x : ℕ) → length p ≡ 0 → seen (p ++ x ∷ []) ≡ seen p + 1
shown_first p x none = grind (arith, nat_tests, nil_from_length, seen-push)

-- the least value is hidden where it isn't the first
shown_later : {sets : List ℕ} (p : List ℕ) (k : ℕ) → k ≡ 0 → IsStart sets p → 0 < length p → seen (p ++ (k + 1) ∷ []) ≡ seen p
shown_later {sets} p k h2 start some = grind (arith, nat_tests, list_all_at, seen-push)

-- a start with the greatest value shows no tower more, whatever value comes
shown_same : {sets : List ℕ} (p : List ℕ) (k : ℕ) → IsStart sets (p ++ (k + 1) ∷ []) → is_in (length sets) p ≡ true
    → seen (p ++ (k + 1) ∷ []) ≡ seen p
shown_same p k start has = let parts = seen-append p ((k + 1) ∷ []) in omega (arith, none_seen p ((k + 1) ∷ []) start has)

-- whether a list has the greatest value stays the same as a lower one comes
greatest_in_push : (p : List ℕ) (n k : ℕ) → k + 1 < n → is_in n (p ++ (k + 1) ∷ []) ≡ is_in n p
greatest_in_push p n k low = is_in-push p (k + 1) n ∙ ap (λ b. is_in n p || b) (ne_eqb (k + 1) n (λ e. omega arith)) ∙ or-false (is_in n p)

-- a start with the greatest value is at the last level
pub at_last : {sets : List ℕ} {clue level mask : ℕ} (p : List ℕ) → IsAtLevel sets clue level mask p → is_in (length sets) p ≡ true → level ≡ clue
at_last {sets} {clue} {level} p at has = eqb-true level clue (sym at.last ∙ has)

-- a start without the greatest value is below the last level
at_low : {sets : List ℕ} {clue level mask : ℕ} (p : List ℕ) → IsAtLevel sets clue level mask p → is_in (length sets) p ≡ false → level < clue
at_low {sets} {clue} {level} p at lacks = grind (arith, nat_tests)

-- a start below the last level lacks the greatest value
at_low_lacks : {sets : List ℕ} {clue level mask : ℕ} (p : List ℕ) → IsAtLevel sets clue level mask p → level < clue → is_in (length sets) p ≡ false
at_low_lacks {sets} {clue} {level} p at low = at.last ∙ ne_eqb level clue (λ e. omega arith)

-- ---- the step from one level to another

-- a value below the greatest leads to the level that is then shown, if both levels or neither are the last
pushed_at : {sets : List ℕ} {clue level mask level_then mask_then : ℕ} (p : List ℕ) (k : ℕ) → k + 1 < length sets → IsAtLevel sets clue level mask p
    → IsStart sets (p ++ (k + 1) ∷ []) → IsLowMask (length sets) mask_then (p ++ (k + 1) ∷ []) → seen (p ++ (k + 1) ∷ []) ≡ level_then → level_then ≤ clue
    → (level ≡ clue) ↔ (level_then ≡ clue) → IsAtLevel sets clue level_then mask_then (p ++ (k + 1) ∷ [])
pushed_at {sets} {clue} {level} {mask} {level_then} p k value at start used shown low same =
    grind (arith, nat_tests, greatest_in_push)

-- a start lacks the least value where `LacksLeast` says so of its level and mask
lacks_least : {sets : List ℕ} {clue level mask : ℕ} (p : List ℕ) → 1 < length sets → IsAtLevel sets clue level mask p
    → LacksLeast (length p) clue level mask → is_in 1 p ≡ false
lacks_least {sets} {clue} {level} p more at told =
    grind (arith, nat_tests, least_told, rest_low, at_low_lacks, rest_last)

-- the value k + 1 is one that the start lacks, and the start with it has this mask
record IsNew (sets : List ℕ) (k mask_then : ℕ) (p : List ℕ) : Type 0 where
  high : k + 1 ≤ length sets
  fresh : is_in (k + 1) p ≡ false
  used : IsLowMask (length sets) mask_then (p ++ (k + 1) ∷ [])

-- the value of a step is one that the start lacks, and the step leads to the mask of the start with it
step_new : {sets : List ℕ} {clue k level mask level_then mask_then : ℕ} (p : List ℕ) → IsAtLevel sets clue level mask p
    → IsLevelStep (length p) (length sets) clue k level mask level_then mask_then → IsNew sets k mask_then p
step_new {sets} {clue} {k} {level} {mask} {level_then} {mask_then} p at (Greatest s) =
    let is = s.value in
    let lacks = at_low_lacks p at (omega (arith, s.before)) in
    record { high = omega arith; fresh = rw is lacks; used = rw s.same (low_same p (k + 1) at.used (λ j l e. omega arith)) }
step_new {sets} {clue} {k} {level} {mask} {level_then} {mask_then} p at (Least s) =
    let one : k + 1 ≡ 1 = omega (arith, s.value) in
    let fresh : is_in 1 p ≡ false = elim s.moves [
      | First none next low ↦ ap (is_in 1) (nil_from_length p none)
      | Later some same lacks ↦ lacks_least p s.more at lacks
    ] in
    record { high = omega (arith, s.more); fresh = ap (λ v. is_in v p) one ∙ fresh; used = rw s.same (low_same p (k + 1) at.used (λ j l e. omega arith)) }
step_new {sets} {clue} {k} {level} {mask} {level_then} {mask_then} p at (Between bit is s) =
    let fresh = sym (low_bit p k bit is at.used s.value) ∙ s.fresh in
    record { high = omega (arith, s.value); fresh = fresh; used = rw s.more (low_more p k bit is at.used s.value s.fresh) }

-- a step by a candidate of the next square leads to the level and mask of the start with it
pub step_from : {sets : List ℕ} {clue k level mask level_then mask_then : ℕ} (p : List ℕ) → IsAtLevel sets clue level mask p → length p < length sets
    → has_number (get_or sets (length p) 0) (k + 1) ≡ true → IsLevelStep (length p) (length sets) clue k level mask level_then mask_then
    → IsAtLevel sets clue level_then mask_then (p ++ (k + 1) ∷ [])
step_from {sets} {clue} {k} {level} {mask} {level_then} {mask_then} p at room candidate s =
    let new = step_new p at s in
    let start = start_more p (k + 1) at.start record { room = room; low = omega arith; high = new.high; candidate = candidate; fresh = new.fresh } in
    let whole = at.shown in
    elim s [
      | Greatest g ↦
          let before = g.before in
          let shown : seen (p ++ (k + 1) ∷ []) ≡ level_then = omega (arith, shown_last p k g.value at.start (at_low_lacks p at (omega arith)), g.after) in
          let last = is_in-push_same p (k + 1) (length sets) g.value ∙ sym (eq-eqb level_then clue g.after) in
          record { start = start; used = new.used; low = omega (arith, g.after); shown = shown; last = last }
      | Least b ↦
          let value : k + 1 < length sets = omega (arith, b.value, b.more) in
          elim b.moves [
            | First none next low ↦
                pushed_at p k value at start new.used (omega (arith, shown_first p (k + 1) none)) (omega arith) (λ e. omega arith, λ e. omega arith)
            | Later some same lacks ↦
                pushed_at p k value at start new.used (omega (arith, shown_later p k b.value at.start some)) (omega (arith, at.low)) (λ e. omega arith, λ e. omega arith)
          ]
      | Between bit is b ↦
          let value : k + 1 < length sets = omega (arith, b.value) in
          elim b.moves [
            | Within last then ↦
                pushed_at p k value at start new.used (omega (arith, shown_same p k start (at.last ∙ eq-eqb level clue last))) (omega arith) (λ e. then, λ e. last)
            | Hidden early large same ↦
                let more = shown_more p k bit is at.start (at_low_lacks p at early) at.used in
                pushed_at p k value at start new.used (omega (arith, tower_none mask bit large)) (omega arith) (λ e. omega arith, λ e. omega arith)
            | Shown small next low ↦
                let more = shown_more p k bit is at.start (at_low_lacks p at (omega arith)) at.used in
                pushed_at p k value at start new.used (omega (arith, tower_one mask bit small)) (omega arith) (λ e. omega arith, λ e. omega arith)
          ]
    ]

-- a start is at the level that it shows, if it shows all towers with the greatest value, and fewer without it
front_of : {sets : List ℕ} {clue mask : ℕ} (p : List ℕ) → IsStart sets p → IsLowMask (length sets) mask p → (is_in (length sets) p ≡ true → seen p ≡ clue)
    → (is_in (length sets) p ≡ false → seen p < clue) → IsAtLevel sets clue (seen p) mask p
front_of {sets} {clue} p start used all few = grind (arith, nat_tests)

-- the front p of a start is at the level that it shows, and the last value is a step from there
pub record IsStepped (sets : List ℕ) (clue k level mask : ℕ) (p : List ℕ) : Type 0 where
  pub mask_before : ℕ
  pub front : IsAtLevel sets clue (seen p) mask_before p
  pub step : IsLevelStep (length p) (length sets) clue k (seen p) mask_before level mask

-- without its last value, a start at a level is at the level of the towers that it then shows
front_at : {sets : List ℕ} {clue level mask front : ℕ} (p : List ℕ) (k : ℕ) → IsAtLevel sets clue level mask (p ++ (k + 1) ∷ [])
    → IsLowMask (length sets) front p → IsAtLevel sets clue (seen p) front p
front_at {sets} {clue} {level} p k at used =
    grind (
      arith,
      nat_tests,
      start_front,
      start_next,
      front_of,
      at_last,
      is_in-push,
      shown_same,
      is_in-push_same,
      shown_last,
      at_low,
      greatest_in_push,
      seen-append,
    )

-- the greatest value at the end of a start is a step from the front's level to the start's
step_greatest : {sets : List ℕ} {clue level mask front : ℕ} (p : List ℕ) (k : ℕ) → k + 1 ≡ length sets → IsAtLevel sets clue level mask (p ++ (k + 1) ∷ [])
    → IsAtLevel sets clue (seen p) front p → IsLevelStep (length p) (length sets) clue k (seen p) front level mask
step_greatest {sets} p k greatest at from =
    let lacks : is_in (length sets) p ≡ false = ap (λ v. is_in v p) (sym greatest) ∙ (start_next p (k + 1) [] at.start).fresh in
    let last = at_last (p ++ (k + 1) ∷ []) at (is_in-push_same p (k + 1) (length sets) greatest) in
    Greatest record {
      value = greatest;
      before = omega (arith, shown_last p k greatest from.start lacks, at.shown);
      after = last;
      same = low_unique (p ++ (k + 1) ∷ []) at.used (low_same p (k + 1) from.used (λ j l e. omega arith));
    }

-- the least value at the end of a start is a step from the front's level to the start's
step_least : {sets : List ℕ} {clue level mask front : ℕ} (p : List ℕ) (k : ℕ) → k ≡ 0 → k + 1 < length sets → IsAtLevel sets clue level mask (p ++ (k + 1) ∷ [])
    → IsAtLevel sets clue (seen p) front p → IsLevelStep (length p) (length sets) clue k (seen p) front level mask
step_least {sets} {clue} {level} {mask} {front} p k least value at from =
    let one : 1 ≡ k + 1 = omega arith in
    let fresh : is_in 1 p ≡ false = ap (λ v. is_in v p) one ∙ (start_next p (k + 1) [] at.start).fresh in
    let tells : LacksLeast (length p) clue (seen p) front = elim (cases_Bool (is_in (length sets) p)) [
      | inl has ↦ inr (at_last p from has, least_tells p (rest_last p (omega arith) from.start has from.used) fresh)
      | inr lacks ↦ inl (at_low p from lacks, omega (arith, least_tells p (rest_low p from.start lacks from.used) fresh))
    ] in
    Least record {
      value = least;
      more = omega arith;
      same = low_unique (p ++ (k + 1) ∷ []) at.used (low_same p (k + 1) from.used (λ j l e. omega arith));
      moves = elim (cases_lt 0 (length p)) [
        | inl some ↦ Later some (omega (arith, shown_later p k least from.start some, at.shown)) tells
        | inr none ↦
            let first : length p ≡ 0 = omega arith in
            let lacks : is_in (length sets) p ≡ false = ap (is_in (length sets)) (nil_from_length p first) in
            First first (omega (arith, shown_first p (k + 1) first, at.shown))
            (at_low (p ++ (k + 1) ∷ []) at (greatest_in_push p (length sets) k value ∙ lacks))
      ];
    }

-- a value between least and greatest at the end of a start is a step from the front's level to the start's
step_between : {sets : List ℕ} {clue level mask front : ℕ} (p : List ℕ) (k : ℕ) → 0 < k → k + 1 < length sets → IsAtLevel sets clue level mask (p ++ (k + 1) ∷ [])
    → IsAtLevel sets clue (seen p) front p → IsLevelStep (length p) (length sets) clue k (seen p) front level mask
step_between {sets} {clue} {level} {mask} {front} p k some value at from =
    let bit = k - 1 in
    let is : k ≡ bit + 1 = omega arith in
    let inside : bit + 2 < length sets = omega arith in
    let fresh : has_number front bit ≡ false = low_bit p k bit is from.used inside ∙ (start_next p (k + 1) [] at.start).fresh in
    let whole = at.shown in
    Between bit is record {
      value = inside;
      fresh = fresh;
      more = low_unique (p ++ (k + 1) ∷ []) at.used (low_more p k bit is from.used inside fresh);
      moves = elim (cases_Bool (is_in (length sets) p)) [
        | inl has ↦ (let last = at_last p from has in Within last (omega (arith, shown_same p k at.start has)))
        | inr lacks ↦
            let shown = shown_more p k bit is from.start lacks from.used in
            elim (cases_lt front (2 ^ bit)) [
              | inl small ↦ Shown small (omega (arith, tower_one front bit small))
                  (at_low (p ++ (k + 1) ∷ []) at (greatest_in_push p (length sets) k value ∙ lacks))
              | inr large ↦ Hidden (at_low p from lacks) large (omega (arith, tower_none front bit large))
            ]
      ];
    }

-- the last value of a start at a level leads from its front's level
pub stepped : {sets : List ℕ} {clue level mask : ℕ} (p : List ℕ) (k : ℕ) → IsAtLevel sets clue level mask (p ++ (k + 1) ∷ [])
    → IsStepped sets clue k level mask p
stepped {sets} p k at =
    let high = (start_next p (k + 1) [] at.start).high in
    let (mask, used) = low_mask_of p (start_front p ((k + 1) ∷ []) at.start) in
    let from = front_at p k at used in
    record {
      mask_before = mask;
      front = from;
      step = elim (cases_eq (k + 1) (length sets)) [
        | inl greatest ↦ step_greatest p k greatest at from
        | inr other ↦ elim (cases_eq k 0) [
          | inl least ↦ step_least p k least (omega arith) at from
          | inr some ↦ step_between p k (omega arith) (omega arith) at from
        ]
      ];
    }

-- ---- the fronts of fillings

-- each front of a filling is at the level of the towers that it shows
pub front_level : {sets : List ℕ} {clue : ℕ} (p s : List ℕ) → 0 < length sets → IsFilling sets clue (p ++ s)
    → (mask : ℕ) × IsAtLevel sets clue (seen p) mask p
front_level {sets} {clue} p s some filling =
    grind (
      arith,
      nat_tests,
      start_front,
      low_mask_of,
      seen-append,
      front_of,
      none_seen,
      list_any-append,
      has_greatest,
      some_seen,
    )
