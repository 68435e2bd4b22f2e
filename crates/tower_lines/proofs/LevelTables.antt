-- The levels of all starts with so many values, and of those that fillings begin with, value by value.
use Rattle.std.proofs.lemmas.Bool.Decides.{nat_tests}
use Rattle.std.proofs.Common.{◌≡◌, ◌≢◌, ℕ, ◌+◌, ◌-◌, ◌<◌, ◌↔◌, true, List, [], ◌∷◌, ◌++◌, length, get_or, set, take, drop, sym, ap, ◌∙◌, subst, arith, append_assoc, length-append}
use Rattle.std.proofs.lemmas.Bool.{eqb-false}
use Rattle.std.proofs.Math.Bool.{and-false}
use Rattle.std.proofs.lemmas.List.{append-nil, nil_from_length, length_push, get_or_at, get_or-set_same, get_or-set_other, take-append-drop, length-take-le, drop_more}
use Rattle.number_sets.specs.Sets.{has_number}
use Rattle.tower_lines.specs.TowersSeen.{seen}
use Rattle.tower_lines.specs.LineFillings.{IsStart, IsFilling, IsSupported}
use Rattle.tower_lines.specs.Inner.MaskSets.{has_at}
use Rattle.tower_lines.specs.Inner.Levels.{IsAtLevel, IsLevelStep, LeadsToLevels, IsPassing, AreReached, AreContinued, AreFew, IsReachedFrom, IsPassed, IsKeptBy}
use Rattle.number_sets.proofs.Members.{has_number-none, none_from_numbers}
use Rattle.tower_lines.proofs.LevelLemmas.{has_greatest, at_last, step_from, stepped, front_level}
use Rattle.tower_lines.proofs.LowMaskLemmas.{low_unique}
use Rattle.tower_lines.proofs.SeenLemmas.{seen_most, seen_some}
use Rattle.tower_lines.proofs.StartLemmas.{IsNextValue, start_next}

-- ---- the levels of the starts with so many values

-- the start without values has the empty mask and is at a level below the last
first_level : {sets : List ℕ} {clue level mask : ℕ} → IsAtLevel sets clue level mask [] → (mask ≡ 0) × (level < clue)
first_level {sets} {clue} {level} {mask} at =
    let apart : level ≢ clue = eqb-false level clue (sym at.last) in
    let low = at.low in
    (none_from_numbers mask (λ k. at.used.bits k ∙ and-false _), omega arith)

-- the start without values has its levels: the empty mask at level 0 alone, or no mask for a clue of 0
pub first_reached : {sets : List ℕ} {clue : ℕ} (levels : List (List ℕ)) → 0 < length sets
    → ((level mask : ℕ) → (has_at levels level mask ≡ true) ↔ ((level ≡ 0) × (mask ≡ 0) × (0 < clue))) → AreReached sets clue 0 levels
first_reached {sets} {clue} levels some first level mask =
    grind (arith, nat_tests, has_number-none, and-false, nil_from_length, first_level)

-- a start in three parts: what comes before the place, the value there, and what comes after it
pub record IsParted (sets : List ℕ) (place : ℕ) (line : List ℕ) : Type 0 where
  pub front : List ℕ
  pub k : ℕ
  pub rest : List ℕ
  pub long : length front ≡ place
  pub is : line ≡ front ++ (k + 1) ∷ rest
  pub next : IsNextValue sets front (k + 1)

parted : {sets : List ℕ} (place : ℕ) (line : List ℕ) → place < length line → IsStart sets line → IsParted sets place line
parted {sets} place line inside start =
    let value = get_or line place 0 in
    let low = (start.values place inside).0 in
    let e : value ≡ (value - 1) + 1 = omega arith in
    let is : line ≡ take place line ++ (value - 1 + 1) ∷ drop (place + 1) line =
    sym (take-append-drop place line) ∙ ap (λ s. take place line ++ s) (drop_more line place 0 inside ∙ ap (λ x. x ∷ drop (place + 1) line) e) in
    record {
      front = take place line;
      k = value - 1;
      rest = drop (place + 1) line;
      long = length-take-le place line (omega arith);
      is = is;
      next = start_next (take place line) (value - 1 + 1) (drop (place + 1) line) (subst (IsStart sets) is start);
    }

-- a step after `place` values is one after as many under another name
step_at : {place place' width clue k level mask level_then mask_then : ℕ} → place ≡ place' → IsLevelStep place width clue k level mask level_then mask_then
    → IsLevelStep place' width clue k level mask level_then mask_then
step_at same s = rw same at s

-- from the levels of all starts so long, the next square's candidates lead to those of all starts one longer
pub next_reached : {sets : List ℕ} {clue place : ℕ} {levels : List (List ℕ)} (next : List (List ℕ)) → place < length sets → AreReached sets clue place levels
    → ((level mask : ℕ) → (has_at next level mask ≡ true) ↔ IsReachedFrom place (length sets) clue (get_or sets place 0) levels level mask)
    → AreReached sets clue (place + 1) next
next_reached {sets} {clue} {place} {levels} next inside reached is level mask = (
  λ e.
      let from = (is level mask).0 e in
      let by = from.reached in
      let (line, long, at) = (reached by.level by.mask).0 by.here in (
        line ++ (from.k + 1) ∷ [],
        length_push line (from.k + 1) ∙ ap (λ n. n + 1) long,
        step_from line at (omega arith) (rw long from.candidate) (step_at (sym long) by.link),
      ),
  λ (line, whole, at).
      let parts = parted place line (omega arith) at.start in
      let p = parts.front in
      let long = parts.long in
      let none : parts.rest ≡ [] = nil_from_length parts.rest (omega (arith, length-append p ((parts.k + 1) ∷ parts.rest), ap length parts.is)) in
      let back = stepped p parts.k (rw (parts.is ∙ ap (λ s. p ++ (parts.k + 1) ∷ s) none) at at) in
      let high = parts.next.high in
      (is level mask).1 record {
        k = parts.k;
        inside = omega arith;
        candidate = rw long at parts.next.candidate;
        reached = record {
          level = seen p;
          mask = back.mask_before;
          here = (reached (seen p) back.mask_before).1 (p, long, back.front);
          link = step_at {mask = back.mask_before} long back.step;
        };
      },
)

-- a start shows no more towers than it has values, and one at least where it has any
pub reached_few : {sets : List ℕ} {clue place : ℕ} (levels : List (List ℕ)) → AreReached sets clue place levels → AreFew clue place levels
reached_few {sets} {clue} {place} levels reached level mask e =
    grind (arith, nat_tests, seen_most, seen_some, first_level, nil_from_length)

-- there is a filling exactly if the levels of all whole starts have a mask at the last level
pub reached_filling : {sets : List ℕ} {clue : ℕ} (levels : List (List ℕ)) → 0 < length sets → AreReached sets clue (length sets) levels
    → ((mask : ℕ) × (has_at levels clue mask ≡ true)) ↔ ((line : List ℕ) × IsFilling sets clue line)
reached_filling {sets} {clue} levels some reached = (
  λ (mask, here). let (line, whole, at) = (reached clue mask).0 here in (line, record { start = at.start; whole = whole; shown = at.shown }),
  λ (line, filling).
      let (mask, at) = front_level {clue = clue} line [] some (rw append-nil filling) in
      (mask, (reached clue mask).1 (line, filling.whole, rw filling.shown at at)),
)

-- ---- the levels of the starts that a filling begins with

-- the levels of all whole starts are those that a filling begins with, since each such start is one
pub last_continued : {sets : List ℕ} {clue : ℕ} {levels : List (List ℕ)} → 0 < length sets → AreReached sets clue (length sets) levels
    → AreContinued sets clue (length sets) levels
last_continued {sets} {clue} {levels} some reached = grind (arith, nat_tests, at_last, has_greatest, append-nil)

-- if a candidate leads from a start to a mask of starts that go on to fillings, both together go on to one
continued_step : {sets : List ℕ} {after : List (List ℕ)} {clue place k level mask : ℕ} (p : List ℕ) → place < length sets → AreContinued sets clue (place + 1) after
    → length p ≡ place → has_number (get_or sets place 0) (k + 1) ≡ true → IsAtLevel sets clue level mask p → LeadsToLevels place (length sets) clue k after level mask
    → (rest : List ℕ) × IsFilling sets clue (p ++ (k + 1) ∷ rest)
continued_step {sets} {after} {clue} {place} {k} {level} {mask} p inside continued long candidate at leads =
    let then = step_from p at (omega arith) (rw long candidate) (step_at (sym long) leads.link) in
    let (rest, filling) = (continued.is leads.level leads.mask (p ++ (k + 1) ∷ []) (length_push p (k + 1) ∙ ap (λ n. n + 1) long) then).0 leads.here in
    (rest, rw (append_assoc p ((k + 1) ∷ []) rest) at filling)

-- the next value of a filling leads from its front's level to the next levels
passing_step : {sets : List ℕ} {levels after : List (List ℕ)} {clue place level mask : ℕ} (p : List ℕ) (k : ℕ) (s : List ℕ) → place < length sets
    → AreReached sets clue place levels → AreContinued sets clue (place + 1) after → length p ≡ place → IsAtLevel sets clue level mask p
    → IsFilling sets clue (p ++ (k + 1) ∷ s) → IsPassing place (length sets) clue k levels after level mask
passing_step {sets} {levels} {after} {clue} {place} {level} {mask} p k s inside reached continued long at filling =
    let filling' : IsFilling sets clue ((p ++ (k + 1) ∷ []) ++ s) = rw (append_assoc p ((k + 1) ∷ []) s) filling in
    let (mask_then, then) = front_level (p ++ (k + 1) ∷ []) s (omega arith) filling' in
    let back = stepped p k then in
    let same_mask : back.mask_before ≡ mask = low_unique p back.front.used at.used in
    record {
      low = at.low;
      here = (reached level mask).1 (p, long, at);
      leads = record {
        level = seen (p ++ (k + 1) ∷ []);
        mask = mask_then;
        here = (continued.is (seen (p ++ (k + 1) ∷ [])) mask_then (p ++ (k + 1) ∷ []) (length_push p (k + 1) ∙ ap (λ n. n + 1) long) then).1 (s, filling');
        link = rw (← at.shown, ← same_mask) (step_at long back.step);
      };
    }

-- the masks that lead on to starts of fillings are those of the starts of fillings that are one shorter
pub before_continued : {sets : List ℕ} {clue place : ℕ} {levels after before : List (List ℕ)} → place < length sets → AreReached sets clue place levels
    → AreContinued sets clue (place + 1) after
    → ((level mask : ℕ) → (has_at before level mask ≡ true) ↔ IsPassed place (length sets) clue (get_or sets place 0) levels after level mask)
    → AreContinued sets clue place before
before_continued {sets} {clue} {place} {levels} {after} {before} inside reached continued is = record {
  is = λ level mask line long at. (
    λ e.
        let passed = (is level mask).0 e in
        let (rest, filling) = continued_step line inside continued long passed.candidate at passed.passing.leads in
        ((passed.k + 1) ∷ rest, filling),
    λ f. each level mask line f.0 long at f.1,
  );
}
  where
    each : (level mask : ℕ) (line rest : List ℕ) → length line ≡ place → IsAtLevel sets clue level mask line → IsFilling sets clue (line ++ rest)
        → has_at before level mask ≡ true
    each level mask line [] long at filling = let whole = rw append-nil at filling.whole in absurd (omega arith)
    each level mask line (value ∷ s) long at filling =
        let next = start_next line value s filling.start in
        let low = next.low in
        let high = next.high in
        let e : value ≡ (value - 1) + 1 = omega arith in
        let passing = passing_step line (value - 1) s inside reached continued long at (rw e at filling) in
        (is level mask).1 record { k = value - 1; inside = omega arith; candidate = rw (long, e) at next.candidate; passing = passing }

-- the values that lead to some start that a filling begins with are those that a filling has at the place
pub kept_supported : {sets : List ℕ} {clue place : ℕ} {levels after : List (List ℕ)} → place < length sets → AreReached sets clue place levels
    → AreContinued sets clue (place + 1) after → (value : ℕ)
    → IsKeptBy place (length sets) clue (get_or sets place 0) levels after value ↔ IsSupported sets clue place value
kept_supported {sets} {clue} {place} {levels} {after} inside reached continued value = (
  λ h.
      let (line, long, at) = (reached h.level h.mask).0 h.passing.here in
      let (rest, filling) = continued_step line inside continued long h.candidate at h.passing.leads in
      record { line = line ++ (h.k + 1) ∷ rest; filling = filling; inside = inside; here = get_or_at line (h.k + 1) rest 0 place long ∙ sym h.is },
  λ h.
      let p = parted place h.line (omega (arith, h.filling.whole)) h.filling.start in
      let high = p.next.high in
      let value_is : value ≡ p.k + 1 = sym h.here ∙ ap (λ l. get_or l place 0) p.is ∙ get_or_at p.front (p.k + 1) p.rest 0 place p.long in
      let filling : IsFilling sets clue (p.front ++ (p.k + 1) ∷ p.rest) = rw (← p.is) h.filling in
      let (mask, at) = front_level p.front ((p.k + 1) ∷ p.rest) (omega arith) filling in
      let passing = passing_step p.front p.k p.rest inside reached continued p.long at filling in
      record { k = p.k; is = value_is; inside = omega arith; candidate = rw p.long at p.next.candidate; level = seen p.front; mask = mask; passing = passing },
)

-- ---- an entry of a table that is put in

-- what holds of the new entry, and of each other as it was, holds of each entry of the new table
pub set_each : {A : Type 0} (P : ℕ → A → Type 0) (xs : List A) (i p : ℕ) (x d : A) → i < length xs → P i x → (p ≢ i → P p (get_or xs p d))
    → P p (get_or (set xs i x) p d)
set_each P xs i p x d inside here other = grind (arith, nat_tests, get_or-set_same, get_or-set_other)
