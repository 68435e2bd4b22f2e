-- The counts that a row's fillings show with a value at a place: those of the row with it alone there.
use Rattle.std.proofs.Common.{◌≡◌, ◌↔◌, ℕ, ◌+◌, ◌<◌, ◌≤◌, true, false, List, length, take, set, slice_index, sym, ap, ◌∙◌, subst, arith, inl, inr}
use Rattle.std.proofs.lemmas.Bool.{both_ways, cases_eq, cases_lt, eqb-true, eq-eqb}
use Rattle.std.proofs.lemmas.List.{get_or-take, length-take-le, get_or-set_same, get_or-set_other, get_or_past}
use Rattle.number_sets.specs.Sets.{has_number}
use Rattle.number_sets.proofs.Members.{has_number-none}
use Rattle.tower_lines.specs.LineFillings.{IsFilling, IsSupported}
use Rattle.tower_lines.proofs.SeenLemmas.{seen_most, seen_some}
use Rattle.shown_counts.specs.Inner.Counted.{IsFilled, HasAlone, AreCounts, AreCountsBelow, AreCountsOf}

-- a line of some squares shows one tower at least, and no more than it has squares
pub supported_range : (sets : List ℕ) (clue place value : ℕ) → IsSupported sets clue place value → (1 ≤ clue) × (clue ≤ length sets)
supported_range sets clue place value s = grind (arith, seen_some, seen_most)

-- each value of a filling is in the row's set at its place
pub filled_has : (w : ℕ) (row : List ℕ) (clue : ℕ) (line : List ℕ) (k : ℕ) → w ≤ length row → k < w → IsFilling (take w row) clue line
    → has_number (slice_index row k) (slice_index line k) ≡ true
filled_has w row clue line k inside low f = grind (arith, get_or-take, length-take-le)

-- a filling by one row is one by another row that has its values, too
pub filling_by : (w : ℕ) (row other : List ℕ) (clue : ℕ) (line : List ℕ) → w ≤ length row → w ≤ length other
    → ((k : ℕ) → k < w → has_number (slice_index row k) (slice_index line k) ≡ true → has_number (slice_index other k) (slice_index line k) ≡ true)
    → IsFilling (take w row) clue line → IsFilling (take w other) clue line
filling_by w row other clue line inside other_inside has f = grind (arith, length-take-le, get_or-take, filled_has)

-- with the value alone at the place a row has a filling exactly where the value is supported there
pub alone_supported : (row alone : List ℕ) (w place value clue : ℕ) → w ≤ 9 → place < w → has_number (slice_index row place) value ≡ true
    → HasAlone row place value alone → IsFilled (take w alone) clue ↔ IsSupported (take w row) clue place value
alone_supported row alone w place value clue small low has a =
    let inside : w ≤ length row = omega (arith, small, a.before) in
    let alone_inside : w ≤ length alone = omega (arith, small, a.count) in (
      λ h.
          let line = h.0 in
          let here : slice_index line place ≡ value =
          eqb-true (slice_index line place) value (sym (a.here (slice_index line place)) ∙ filled_has w alone clue line place alone_inside low h.1) in
          record {
            line = line;
            filling = filling_by w alone row clue line alone_inside inside
                (λ k under among. grind (arith, cases_eq)) h.1;
            inside = omega (arith, low, length-take-le w row inside);
            here = here;
          },
      λ s. (
        s.line,
        filling_by w row alone clue s.line inside alone_inside
            (λ k under among. grind (arith, cases_eq, eq-eqb)) s.filling,
      ),
    )

-- the counts below a number past the row's length are all counts that support the value
pub all_counts : (IsSo : ℕ → Type 0) (sets : List ℕ) (place value n counts : ℕ) → length sets < n → AreCounts IsSo n counts
    → ((count : ℕ) → 1 ≤ count → count < n → IsSo count ↔ IsSupported sets count place value)
    → (count : ℕ) → (has_number counts count ≡ true) ↔ IsSupported sets count place value
all_counts IsSo sets place value n counts past are is = λ count. (
  λ has. let was = (are count).0 has in (is count was.0 was.1).0 was.2,
  λ s.
      let range = supported_range sets count place value s in
      grind arith,
)

-- ---- the counts of each value

-- a value of a filling is no greater than the line is long
pub supported_value : (sets : List ℕ) (clue place value : ℕ) → IsSupported sets clue place value → value ≤ length sets
supported_value sets clue place value s = grind arith

-- once the counts of the value n are put in, those of each value below n + 1 are there
pub counted_more : (sets : List ℕ) (place values n counts : ℕ) (shows : List ℕ) → n < length shows → AreCountsBelow sets place values n shows
    → ((count : ℕ) → (has_number counts count ≡ true) ↔ IsSupported sets count place n) → AreCountsBelow sets place values (n + 1) (set shows n counts)
counted_more sets place values n counts shows inside are new = λ v count below one. elim (cases_eq v n) [
  | inl same ↦
      let here : slice_index (set shows n counts) v ≡ counts = ap (slice_index (set shows n counts)) same ∙ get_or-set_same shows n counts 0 inside in
      rw here (subst (λ k. (has_number counts count ≡ true) ↔ IsSupported sets count place k) (sym same) (new count))
  | inr other ↦
      let stays : slice_index (set shows n counts) v ≡ slice_index shows v = get_or-set_other shows n v counts 0 other in
      rw stays (are v count (omega (arith, below, other)) one)
]

-- if n isn't one of the values, the counts of each value below n + 1 are there already
pub counted_on : (sets : List ℕ) (place values n : ℕ) (shows : List ℕ) → has_number values n ≡ false → AreCountsBelow sets place values n shows
    → AreCountsBelow sets place values (n + 1) shows
counted_on sets place values n shows lacks are = λ v count below one. grind (arith, cases_eq, both_ways)

-- once n is past the row's length and the table's end, the counts of all values are there
pub all_counted : (sets : List ℕ) (place values n : ℕ) (shows : List ℕ) → length sets < n → length shows ≤ n → AreCountsBelow sets place values n shows
    → AreCountsOf sets place values shows
all_counted sets place values n shows past long are = λ v count one. elim (cases_lt v n) [
  | inl below ↦ are v count below one
  | inr over ↦ grind (arith, get_or_past, has_number-none, both_ways, supported_value)
]
