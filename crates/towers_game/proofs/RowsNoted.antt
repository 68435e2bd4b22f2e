-- The rows that the cache knows: none at first, and then one more.
use Rattle.std.proofs.lemmas.Bool.Decides.{nat_tests}
use Rattle.std.proofs.Common.{◌≡◌, ℕ, ◌<◌, ◌≤◌, false, [], List, length, replicate, set, take, slice_index, slice_index_or, refl, sym, ◌∙◌, subst, arith}
use Rattle.std.proofs.lemmas.Bool.{both_ways}
use Rattle.std.proofs.lemmas.List.{get_or_past, get_or-replicate, get_or-set_same, get_or-set_other, length-replicate, length-take-le}
use Rattle.number_sets.specs.Sets.{has_number}
use Rattle.number_sets.proofs.Members.{has_number-none}
use Rattle.towers_game.specs.declared.towers.row_cache.TheConstants.{SLOTS}
use Rattle.towers_game.specs.Inner.RowCache.{IsCached, AreCached}
use Rattle.towers_game.specs.Inner.RowSets.{AreKept, AreWithin}
use Rattle.towers_game.proofs.RowFillings.{HaveFillings, kept_of_both, has_taken}

-- no set of a row of empty sets has a number
nothing_has : (k value : ℕ) → has_number (slice_index (replicate 9 0) k) value ≡ false
nothing_has k value = grind (arith, nat_tests, get_or-replicate, has_number-none, get_or_past, length-replicate)

-- a cache that has a row of no squares in each slot, with nothing kept of it, is right
pub none_known : AreCached (replicate SLOTS 0) (replicate SLOTS 0) (replicate SLOTS (replicate 9 0)) (replicate SLOTS (replicate 9 0))
none_known = record {
  each = λ place low.
      let empty : List ℕ = replicate 9 0 in
      let widths : List ℕ = replicate SLOTS 0 in
      let rows : List (List ℕ) = replicate SLOTS empty in
      let width : slice_index widths place ≡ 0 = get_or-replicate SLOTS place 0 0 low in
      let kept : slice_index_or rows place [] ≡ empty = get_or-replicate SLOTS place empty [] low in
      let none : IsCached 0 (slice_index widths place) (slice_index_or rows place []) empty = record {
        room = omega arith;
        stays = λ k value. (
          λ has. absurd (both_ways (has_number (slice_index empty k) value) (nothing_has k value) has),
          λ s. absurd (omega (arith, s.inside)),
        );
      } in
      subst (λ (n : ℕ). IsCached n (slice_index widths place) (slice_index_or rows place []) (slice_index_or rows place [])) (sym width)
      (subst (λ (found : List ℕ). IsCached 0 (slice_index widths place) (slice_index_or rows place []) found) (sym kept) none);
}

-- a cache stays right when one slot gets another row, and what is kept of that row
pub one_known : (widths clues : List ℕ) (sets kept : List (List ℕ)) (place width clue : ℕ) (row found : List ℕ)
    → length widths ≡ SLOTS → length clues ≡ SLOTS → length sets ≡ SLOTS → length kept ≡ SLOTS → place < SLOTS → AreCached widths clues sets kept → IsCached width clue row found
    → AreCached (set widths place width) (set clues place clue) (set sets place row) (set kept place found)
one_known widths clues sets kept place width clue row found ws cs ss ks low known new =
    grind (arith, nat_tests, get_or-set_same, get_or-set_other)

-- if a row is within a known row, and all that is kept of that is within it, the same is kept of both
pub kept_between : (width clue : ℕ) (sets kept row : List ℕ) → IsCached width clue sets kept → width ≤ 9 → length row ≡ 9
    → AreWithin kept row → AreWithin row sets → AreKept (take width row) clue kept
kept_between width clue sets kept row known small count low high =
    let first : List ℕ = take width sets in
    let other : List ℕ = take width row in
    let long : length first ≡ width = length-take-le width sets known.room in
    let same : length other ≡ width = length-take-le width row (omega (arith, small, count)) in
    let there : HaveFillings clue first other = record {
      count = long ∙ sym same;
      each = λ line f k inside.
          let below : k < width = omega (arith, inside, same) in
          let v = slice_index line k in
          let stays = (known.stays k v).1 (record { line = line; filling = f; inside = omega (arith, below, long); here = refl }) in
          (has_taken width k v row below).1 (low k (omega (arith, below, small)) v stays);
    } in
    let back : HaveFillings clue other first = record {
      count = same ∙ sym long;
      each = λ line f k inside.
          let below : k < width = omega (arith, inside, long) in
          let v = slice_index line k in
          let has = (has_taken width k v row below).0 (f.start.candidates k (omega (arith, f.whole, same, below))) in
          (has_taken width k v sets below).1 (high k (omega (arith, below, small)) v has);
    } in
    kept_of_both clue first other kept there back known.stays
