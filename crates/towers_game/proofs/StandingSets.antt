-- Values that may stand in the squares from a place, as a row of sets: none, one, or any; and those struck.
use Rattle.std.proofs.lemmas.Bool.Decides.{nat_tests}
use Rattle.std.proofs.Common.{◌≡◌, ◌↔◌, ℕ, ◌+◌, ◌*◌, ◌<◌, ◌≤◌, true, inl, inr, List, set, take, slice_index, nat_le, ◌&&◌, not, refl, sym, ap, ◌∙◌, subst, arith}
use Rattle.std.proofs.lemmas.Bool.{both_ways, and_parts, and_from, cases_lt, false_from_ne_true, leb-true, le-leb, not_from_false}
use Rattle.std.proofs.lemmas.List.{get_or_past, length-set}
use Rattle.number_sets.specs.Sets.{has_number, IsEmpty, IsSubset}
use Rattle.number_sets.proofs.Members.{has_number-none}
use Rattle.trail_solver.specs.Pairs.{IsPair}
use Rattle.trail_solver.specs.Candidates.{CandidatesValue}
use Rattle.line_steps.specs.Views.{view_cell}
use Rattle.line_steps.specs.Laws.LineSquares.{view_inside}
use Rattle.line_steps.specs.Left.{IsLeft}
use Rattle.towers_game.specs.Fillings.{Anything, Standing, IsUnfilled}
use Rattle.line_steps.specs.Reasons.{AreStruckFrom}
use Rattle.towers_game.specs.Rows.{AreMaySets}
use Rattle.towers_game.specs.Inner.RowSets.{AreKept, AreWithin, AreFull, AreStandingSets, AreMissing}
use Rattle.line_steps.specs.Inner.LineSets.{IsStandingSet}
use Rattle.line_steps.proofs.FilledLemmas.{row_next}
use Rattle.towers_game.proofs.Supports.{unfilled_tested}
use Rattle.line_steps.proofs.GivenSets.{up_to_pair}

-- a row of full sets has what may stand in the squares from a place, where anything may
pub full_may : (c : CandidatesValue) (place all : ℕ) (row : List ℕ) → place < 4 * c.size → ((v : ℕ) → has_number all v ≡ (nat_le 1 v && nat_le v c.size))
    → AreFull all c.size row → AreMaySets c.size Anything place c.size row
full_may c place all row inside members full = grind (arith, nat_tests, up_to_pair, view_inside)

-- nothing stands in a square of which nothing is left
standing_none : (all left set : ℕ) → IsStandingSet all left set → IsEmpty left → IsEmpty set
standing_none all left set is none v = false_from_ne_true (has_number set v) (λ has.
    let no : (n : ℕ) → has_number left n ≡ true → ⊥ = λ n there. both_ways (has_number left n) (none n) there in
    let h = (is (λ n there. absurd (no n there)) v).0 has in
    let zero : v ≡ 0 = h.1 0 (λ n there. absurd (no n there)) in
    let one : v ≡ 1 = h.1 1 (λ n there. absurd (no n there)) in
    omega (arith, zero, one))

-- when the k-th set is put in, the first k + 1 sets of the row have what may stand in their squares
pub standing_next : (all k value : ℕ) (left row : List ℕ) → k < 9 → IsStandingSet all (slice_index left k) value → AreStandingSets all left k row
    → AreStandingSets all left (k + 1) (set row k value)
standing_next all k value left row low here before = record {
  count = length-set row k value ∙ before.count;
  each = row_next (λ j n. IsStandingSet all (slice_index left j) n) row k value before.count low here before.each;
}

-- a row of standing sets has what may stand in the squares from a place, where lone values stand
pub standing_may : (c : CandidatesValue) (place all : ℕ) (left row : List ℕ) → c.size ≤ 9 → place < 4 * c.size
    → ((v : ℕ) → has_number all v ≡ (nat_le 1 v && nat_le v c.size)) → AreMaySets c.size (IsLeft c) place c.size left → AreStandingSets all left 9 row
    → AreMaySets c.size (Standing c) place c.size row
standing_may c place all left row small inside members are standing = record {
  count = standing.count;
  each = λ k low.
      let cell = view_cell c.size place k in
      let is = are.each k low in
      let all_is : (v : ℕ) → (has_number all v ≡ true) ↔ IsPair c.size cell v = λ v.
      up_to_pair c.size cell all v (view_inside c.size place k inside low) members in
      let within : IsSubset (slice_index left k) all = λ v has. (all_is v).1 ((is v).0 has).0 in
      let stands = standing.each k (omega (arith, low, small)) within in λ v. (
        λ has.
            let h = (stands v).0 has in
            ((all_is v).0 h.0, λ alone none. h.1 alone (λ n there. none n ((is n).0 there).1)),
        λ h. (stands v).1 ((all_is v).1 h.0, λ alone none. h.1 alone (λ other left_is. none other ((is other).1 (left_is.pair, left_is)))),
      );
  rest = λ k past. elim (cases_lt k 9) [
    | inl low ↦ standing_none all (slice_index left k) (slice_index row k) (standing.each k low) (are.rest k past)
    | inr out ↦ λ v. ap (λ (n : ℕ). has_number n v) (get_or_past row k 0 (omega (arith, out, standing.count))) ∙ has_number-none v
  ];
}

-- in each square from a place, the values of the size that aren't kept are those that are struck
row_struck : (w place clue : ℕ) (May : ℕ → ℕ → Type 0) (sets kept row : List ℕ) → w ≤ 9 → place < 4 * w → AreMaySets w May place w sets
    → AreKept (take w sets) clue kept → AreMissing w kept 9 row → AreStruckFrom w (IsUnfilled w May place clue) place w row
row_struck w place clue May sets kept row small inside are kept_is missing = record {
  count = missing.count;
  each = λ k v low.
      let stays = has_number (slice_index kept k) v in
      let here = unfilled_tested w May place clue (view_cell w place k) k v sets kept small inside low refl are kept_is in (
        λ has.
            let both = and_parts (nat_le 1 v && nat_le v w) (not stays) (sym (missing.each k v (omega (arith, low, small))) ∙ has) in
            let within = and_parts (nat_le 1 v) (nat_le v w) both.0 in (
              record { inside = view_inside w place k inside low; low = leb-true 1 v within.0; high = leb-true v w within.1 },
              here.0 (false_from_ne_true stays (λ is. both_ways (not stays) (ap not is) both.1)),
            ),
        λ h.
            let within = and_from (nat_le 1 v) (nat_le v w) (le-leb 1 v h.0.low) (le-leb v w h.0.high) in
            missing.each k v (omega (arith, low, small)) ∙ and_from (nat_le 1 v && nat_le v w) (not stays) within (not_from_false stays (here.1 h.1)),
      );
}

-- in each square from a place, the values that aren't kept are struck, if the sets' width is that of the grid
pub row_struck_at : (w width place clue : ℕ) (May : ℕ → ℕ → Type 0) (sets kept row : List ℕ) → width ≡ w → w ≤ 9 → place < 4 * w
    → AreMaySets w May place w sets → AreKept (take width sets) clue kept → AreMissing width kept 9 row
    → AreStruckFrom w (IsUnfilled w May place clue) place w row
row_struck_at w width place clue May sets kept row same small inside are kept_is missing =
    row_struck w place clue May sets kept row small inside are (subst (λ (n : ℕ). AreKept (take n sets) clue kept) same kept_is)
    (subst (λ (n : ℕ). AreMissing n kept 9 row) same missing)

-- where all that is left of each square is kept, nothing that is left is struck
pub still_within : (c : CandidatesValue) (place clue : ℕ) (May : ℕ → ℕ → Type 0) (left sets kept : List ℕ) → c.size ≤ 9 → place < 4 * c.size
    → AreMaySets c.size (IsLeft c) place c.size left → AreMaySets c.size May place c.size sets → AreKept (take c.size sets) clue kept
    → AreWithin left kept → (cell v : ℕ) → IsUnfilled c.size May place clue cell v → IsLeft c cell v → ⊥
still_within c place clue May left sets kept small inside are may kept_is within cell v h left_is =
    let k = h.index in
    let there : IsLeft c (view_cell c.size place k) v = subst (λ (n : ℕ). IsLeft c n v) (sym h.here) left_is in
    let has : has_number (slice_index left k) v ≡ true = (are.each k h.inside v).1 (there.pair, there) in
    let gone = (unfilled_tested c.size May place clue cell k v sets kept small inside h.inside h.here may kept_is).1 h in
    both_ways (has_number (slice_index kept k) v) gone (within k (omega (arith, h.inside, small)) v has)
