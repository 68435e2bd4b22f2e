-- A row without numbers that stand alone in other sets has the same fillings, so the same is kept of it.
use Rattle.std.proofs.lemmas.Bool.Decides.{nat_tests}
use Rattle.std.proofs.Common.{◌≡◌, ◌≢◌, ◌↔◌, ℕ, ◌<◌, ◌≤◌, true, List, length, take, slice_index, sym, ◌∙◌, subst, arith}
use Rattle.std.proofs.lemmas.Bool.{true_from_ne_false}
use Rattle.std.proofs.lemmas.List.{get_or-take, length-take-le}
use Rattle.number_sets.specs.Sets.{has_number, IsEmpty, IsSingle}
use Rattle.tower_lines.specs.LineFillings.{IsFilling}
use Rattle.towers_game.specs.Inner.RowCache.{IsReduced, IsReducedSet, IsLone, IsWithout}
use Rattle.towers_game.specs.Inner.RowSets.{AreKept}
use Rattle.towers_game.proofs.RowFillings.{HaveFillings, kept_of_both, has_taken}

-- a filling has no value in a place that is the only number of another place's set
never_elsewhere : (sets line : List ℕ) (clue k j : ℕ) → IsFilling sets clue line → k < length sets → j < length sets → j ≢ k
    → IsSingle (slice_index sets j) (slice_index line k) → ⊥
never_elsewhere sets line clue k j f inside other_inside other single = grind (arith, nat_tests)

-- a single number of one of a row's first sets is single among these
single_taken : (width j v : ℕ) (sets : List ℕ) → j < width → IsSingle (slice_index sets j) v → IsSingle (slice_index (take width sets) j) v
single_taken width j v sets low single = subst (λ (set : ℕ). IsSingle set v) (sym (get_or-take width sets j 0 low)) single

-- a set with a single number is one of the first, if all sets past the width are empty
not_past : (width j v : ℕ) (sets : List ℕ) → ((k : ℕ) → width ≤ k → IsEmpty (slice_index sets k)) → IsSingle (slice_index sets j) v → j < width
not_past width j v sets empty single = grind (arith, nat_tests)

-- a set without some numbers that stand alone is a reduced set: they stand alone in other sets
pub reduced_set : (width : ℕ) (sets : List ℕ) (k lone rest : ℕ) → ((n : ℕ) → (has_number lone n ≡ true) ↔ IsLone width sets n)
    → IsWithout (slice_index sets k) lone rest → IsReducedSet width sets k rest
reduced_set width sets k lone rest is without = grind (arith, nat_tests)

-- the same is kept of a row as of that row without numbers that stand alone elsewhere
pub kept_reduced : (width clue : ℕ) (sets row kept : List ℕ) → IsReduced 9 sets row → width ≤ 9 → length sets ≡ 9
    → ((k : ℕ) → width ≤ k → IsEmpty (slice_index sets k)) → AreKept (take width row) clue kept → AreKept (take width sets) clue kept
kept_reduced width clue sets row kept reduced small count empty stays =
    let first : List ℕ = take width sets in
    let rest : List ℕ = take width row in
    let long : length first ≡ width = length-take-le width sets (omega (arith, small, count)) in
    let same : length rest ≡ width = length-take-le width row (omega (arith, small, count, reduced.count)) in
    let there : HaveFillings clue rest first = record {
      count = same ∙ sym long;
      each = λ line f k low.
          let inside : k < width = omega (arith, low, long) in
          let v = slice_index line k in
          let has = (has_taken width k v row inside).0 (f.start.candidates k (omega (arith, f.whole, same, inside))) in
          (has_taken width k v sets inside).1 ((reduced.each k (omega (arith, inside, small))).fewer v has);
    } in
    let back : HaveFillings clue first rest = record {
      count = long ∙ sym same;
      each = λ line f k low.
          let inside : k < width = omega (arith, low, same) in
          let v = slice_index line k in
          let has = (has_taken width k v sets inside).0 (f.start.candidates k (omega (arith, f.whole, long, inside))) in
          (has_taken width k v row inside).1 (true_from_ne_false (has_number (slice_index row k) v) (λ gone.
          let t = (reduced.each k (omega (arith, inside, small))).taken v has gone in
          let other : t.0 < width = not_past width t.0 v sets empty t.3 in
          never_elsewhere first line clue k t.0 f (omega (arith, long, inside)) (omega (arith, long, other)) t.2
          (single_taken width t.0 v sets other t.3)));
    } in
    kept_of_both clue rest first kept there back stays
