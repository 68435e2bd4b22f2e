-- Starts that grow by one number, and the counts that they show.
use Rattle.std.proofs.Common.{◌≡◌, ℕ, ◌+◌, ◌-◌, ◌^◌, ◌<◌, ◌≤◌, true, ltb, List, [], ◌∷◌, ◌++◌, length, take, set, slice_index, sym, ap, ◌∙◌, subst, arith, inl, inr}
use Rattle.std.proofs.lemmas.Bool.{cases_lt, cases_eq, le-leb, ltb-true}
use Rattle.std.proofs.lemmas.Nat.{ones-le}
use Rattle.std.specs.List.{list_all}
use Rattle.std.proofs.lemmas.List.{take_more, take_all, get_or-take, length-take-le, length-set, get_or-set_same, get_or-set_other}
use Rattle.number_sets.specs.Sets.{has_number}
use Rattle.tower_lines.specs.LineFillings.{IsStart, IsFilling}
use Rattle.tower_lines.specs.TowersSeen.{seen}
use Rattle.tower_lines.proofs.SeenLemmas.{IsLeastSeen, seen_most, least_seen_more, least_seen_same, seen-more_seen, seen-more_hidden}
use Rattle.tower_lines.proofs.MaskLemmas.{mask_of, tower_is}
use Rattle.shown_counts.specs.Inner.Possible.{IsOneLonger, IsLongerBelow}

-- the count that the line shows is among those for the height from which on a next tower is seen
pub record HasStart (starts line : List ℕ) : Type 0 where
  pub least : ℕ
  pub high : least ≤ 10
  pub seen_from : IsLeastSeen line least
  pub has : has_number (slice_index starts least) (seen line) ≡ true

-- the line without any number is among the starts, if they have the count 0 for the height 0
pub none_started : (starts : List ℕ) → has_number (slice_index starts 0) 0 ≡ true → HasStart starts []
none_started starts has = grind (arith, le-leb)

-- the first towers of a start of a line are a start by themselves
first_towers : (sets line : List ℕ) (k : ℕ) → k ≤ length line → IsStart sets line → IsStart sets (take k line)
first_towers sets line k inside start = grind (arith, length-take-le, get_or-take)

-- the tallest of a line's first towers is as tall as they are many, since no two are the same
tall : {sets : List ℕ} (p : List ℕ) (least : ℕ) → IsStart sets p → IsLeastSeen p least → length p ≤ least - 1
tall {sets} p least start seen_from =
    let b = mask_of p start in
    let k = least - 1 in
    let all : list_all (λ y. ltb y (k + 1)) p ≡ true = seen_from.taller (k + 1) ∙ le-leb least (k + 1) (omega arith) in
    omega (arith, b.ones, ones-le k b.mask (ltb-true b.mask (2 ^ k) (sym (tower_is p k b.used) ∙ all)))

-- if the first k towers of a filling are among the starts, its first k + 1 are among those one longer
pub started_more : (sets starts longer line : List ℕ) (clue k : ℕ) → length sets ≤ 9 → k < length sets → IsFilling sets clue line
    → IsOneLonger (k + 1) (slice_index sets k) starts longer → HasStart starts (take k line) → HasStart longer (take (k + 1) line)
started_more sets starts longer line clue k small inside f one h =
    let x = slice_index line k in
    let low : k < length line = omega (arith, f.whole, inside) in
    let p : List ℕ = take k line ++ x ∷ [] in
    let more : take (k + 1) line ≡ p = take_more line k 0 low in
    let long : length p ≡ k + 1 = ap length (sym more) ∙ length-take-le (k + 1) line (omega (arith, low)) in
    let start : IsStart sets p = subst (IsStart sets) more (first_towers sets line (k + 1) (omega (arith, low)) f.start) in
    let few : seen (take k line) < 15 = omega (arith, seen_most [] (take k line), length-take-le k line (omega (arith, low)), inside, small) in
    let has : has_number (slice_index sets k) x ≡ true = f.start.candidates k low in
    let high : x ≤ 9 = omega (arith, (f.start.values k low).1, small) in
    subst (HasStart longer) (sym more) (elim (cases_lt x h.least) [
      | inl below ↦
          let same = least_seen_same (take k line) h.least x h.seen_from below in
          record {
            least = h.least;
            high = h.high;
            seen_from = same;
            has = ap (has_number (slice_index longer h.least)) (seen-more_hidden (take k line) h.least x h.seen_from below)
                ∙ one.hidden h.least (seen (take k line)) x (omega (arith, below, long, tall p h.least start same)) h.high below has h.has;
          }
      | inr above ↦
          let taller = least_seen_more (take k line) h.least x h.seen_from above in
          record {
            least = x + 1;
            high = omega (arith, high);
            seen_from = taller;
            has = ap (has_number (slice_index longer (x + 1))) (seen-more_seen (take k line) h.least x h.seen_from above)
                ∙ one.seen h.least (seen (take k line)) x above (omega (arith, long, tall p (x + 1) start taller)) high few has h.has;
          }
    ])

-- once the starts are as long as the row, each filling's count is among theirs
pub started_whole : (sets starts line : List ℕ) (clue k : ℕ) → length sets ≤ k → IsFilling sets clue line → HasStart starts (take k line)
    → (h : ℕ) × (h < 11) × (has_number (slice_index starts h) clue ≡ true)
started_whole sets starts line clue k all f h = grind (arith, take_all)

-- ---- one height after another

-- before the first height nothing is done yet, but the counts of the starts below it are known
pub longer_init : (low set_of : ℕ) (starts : List ℕ) (lower : ℕ) (longer : List ℕ) → length longer ≡ 11
    → ((least count : ℕ) → least < low → has_number (slice_index starts least) count ≡ true → has_number lower count ≡ true)
    → IsLongerBelow low low set_of starts lower longer
longer_init low set_of starts lower longer room below = grind arith

-- starts that are one longer up to the greatest height are one longer altogether
pub longer_all : (n low set_of lower : ℕ) (starts longer : List ℕ) → 10 ≤ n → IsLongerBelow n low set_of starts lower longer
    → IsOneLonger low set_of starts longer
longer_all n low set_of lower starts longer all h = grind arith

-- starts that are one longer up to height n are so up to n + 1, once its counts are put in
pub longer_more : (n low set_of lower more counts : ℕ) (starts longer : List ℕ) → n < 10 → IsLongerBelow n low set_of starts lower longer
    → ((count : ℕ) → has_number lower count ≡ true → has_number more count ≡ true)
    → ((count : ℕ) → has_number (slice_index starts n) count ≡ true → has_number more count ≡ true)
    → ((k count : ℕ) → k ≤ n → has_number set_of k ≡ true → has_number (slice_index starts (n + 1)) count ≡ true → has_number counts count ≡ true)
    → ((count : ℕ) → count < 15 → has_number set_of n ≡ true → has_number more count ≡ true → has_number counts (count + 1) ≡ true)
    → IsLongerBelow (n + 1) low set_of starts more (set longer (n + 1) counts)
longer_more n low set_of lower more counts starts longer inside h kept new hidden seen_now =
    let here : slice_index (set longer (n + 1) counts) (n + 1) ≡ counts = get_or-set_same longer (n + 1) counts 0 (omega (arith, inside, h.room)) in
    let stays : (k : ℕ) → (k ≡ n + 1 → ⊥) → slice_index (set longer (n + 1) counts) k ≡ slice_index longer k = λ k other. get_or-set_other longer (n + 1) k counts 0 other in
    let among : (least count : ℕ) → least < n + 1 → has_number (slice_index starts least) count ≡ true → has_number more count ≡ true =
    λ least count below is. grind (arith, cases_eq) in
    record {
      room = length-set longer (n + 1) counts ∙ h.room;
      below = among;
      hidden = λ least count height from most below has is. elim (cases_eq least (n + 1)) [
        | inl same ↦ subst (λ (k : ℕ). has_number (slice_index (set longer (n + 1) counts) k) count ≡ true) (sym same)
            (ap (λ (s : ℕ). has_number s count) here
            ∙ hidden height count (omega (arith, below, same)) has (subst (λ (k : ℕ). has_number (slice_index starts k) count ≡ true) same is))
        | inr other ↦ ap (λ (s : ℕ). has_number s count) (stays least other) ∙ h.hidden least count height from (omega (arith, most, other)) below has is
      ];
      seen = λ least count height above from below small has is. elim (cases_eq height n) [
        | inl same ↦ search arith
        | inr other ↦ ap (λ (s : ℕ). has_number s (count + 1)) (stays (height + 1) (λ e. other (omega (arith, e))))
            ∙ h.seen least count height above from (omega (arith, below, other)) small has is
      ];
    }
