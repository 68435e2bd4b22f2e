-- Which lines wait after a look along one, and which are quiet.
use Rattle.std.proofs.lemmas.Bool.Decides.{nat_tests}
use Rattle.std.proofs.Common.{◌≡◌, ◌≢◌, ℕ, ◌*◌, ◌<◌, ◌≤◌, false, ◌||◌, length, sym, ◌∙◌, subst, arith}
use Rattle.std.proofs.lemmas.Bool.{both_ways, cases_Bool, or_parts, or_left, or_right, false_from_ne_true}
use Rattle.number_sets.specs.Sets.{has_number, IsEmpty}
use Rattle.latin_board.specs.Lines.{line_cell}
use Rattle.trail_solver.specs.Candidates.{CandidatesValue}
use Rattle.line_steps.specs.Left.{IsLeft, IsFewer}
use Rattle.line_steps.specs.Along.{StaysOn, LosesAt}
use Rattle.line_steps.specs.Inner.LineStrikes.{IsLiveLine, IsRestQuiet}
use Rattle.line_steps.specs.Takes.{is_crossing, AreChanged}
use Rattle.line_steps.proofs.TakenLines.{apart_from}

-- ---- quiet lines

-- a quiet line stays quiet where nothing of its squares went
pub quiet_stays : (line : ℕ) (c d : CandidatesValue) → d.size ≡ c.size → IsFewer c d
    → ((k v : ℕ) → k < c.size → IsLeft c (line_cell c.size line k) v → IsLeft d (line_cell c.size line k) v) → IsRestQuiet line c → IsRestQuiet line d
quiet_stays line c d size fewer stays quiet = grind (arith, nat_tests, false_from_ne_true, both_ways)

-- a line with something left of each square and number keeps this where nothing of its squares went
pub live_stays : (line : ℕ) (c d : CandidatesValue) → d.size ≡ c.size → StaysOn line c d → IsLiveLine line c → IsLiveLine line d
live_stays line c d size stays live =
    let Stays : ℕ → Type 0 = λ w. (k v : ℕ) → k < c.size → IsLeft c (line_cell c.size line k) v → IsLeft d (line_cell w line k) v in
    let on : Stays d.size = subst Stays (sym size) stays in
    record {
      some = λ k low.
          let (v, left) = live.some k (omega (arith, low, size)) in
          (v, on k v (omega (arith, low, size)) left);
      placed = λ v low high.
          let (k, inside, left) = live.placed v low (omega (arith, high, size)) in
          (k, omega (arith, inside, size), on k v inside left);
    }

-- if only squares at some places of a line lost candidates, all stays on lines that don't cross it there
pub stays_apart : (line places other : ℕ) (a b : CandidatesValue) → line < 2 * a.size → other < 2 * a.size → other ≢ line
    → is_crossing a.size line places other ≡ false → LosesAt line places a b → StaysOn other a b
stays_apart line places other a b line_is other_is apart uncrossed loses j v j_is left =
    loses.stays (line_cell a.size other j) v left (λ k k_is has. apart_from a.size line places other line_is other_is apart uncrossed j k j_is k_is has)

-- where nothing went at any place, all stays on each line
pub stays_all : (line places other : ℕ) (a b : CandidatesValue) → IsEmpty places → LosesAt line places a b → StaysOn other a b
stays_all line places other a b none loses j v j_is left =
    loses.stays (line_cell a.size other j) v left (λ k k_is has. absurd (both_ways (has_number places k) (none k) has))

-- if all stays on a line from a to c, and b lies between, all stays from a to b
pub stays_first : (line : ℕ) (a b c : CandidatesValue) → IsFewer b c → StaysOn line a c → StaysOn line a b
stays_first line a b c fewer stays = λ k v low left. fewer (line_cell a.size line k) v (stays k v low left)

-- if all stays on a line from a to c, and b lies between, all stays from b to c
pub stays_second : (line : ℕ) (a b c : CandidatesValue) → b.size ≡ a.size → IsFewer a b → StaysOn line a c → StaysOn line b c
stays_second line a b c size fewer stays = grind (arith, nat_tests)

-- if the places are exactly those that lost something, then only squares at them lost something
pub loses_changed : (line places : ℕ) (a b : CandidatesValue) → AreChanged line places a b → LosesAt line places a b
loses_changed line places a b h = record { stays = h.stays; went = h.went }

-- candidates that go at some places, and then at others, go at the places of both
pub loses_both : (line first second both : ℕ) (a b c : CandidatesValue) → b.size ≡ a.size → length a.trail ≤ length b.trail → length b.trail ≤ length c.trail
    → ((k : ℕ) → has_number both k ≡ (has_number first k || has_number second k)) → LosesAt line first a b → LosesAt line second b c → LosesAt line both a c
loses_both line first second both a b c size longer further is h k = grind (arith, nat_tests, or_left, or_right, cases_Bool, both_ways)

-- exact changes at some places, and then at others, are changes at the places of both
pub changed_both : (line first second both : ℕ) (a b c : CandidatesValue) → b.size ≡ a.size → length a.trail ≤ length b.trail → length b.trail ≤ length c.trail
    → ((k : ℕ) → has_number both k ≡ (has_number first k || has_number second k)) → AreChanged line first a b → AreChanged line second b c
    → AreChanged line both a c
changed_both line first second both a b c size longer further is h k =
    let l = loses_both line first second both a b c size longer further is (loses_changed line first a b h) (loses_changed line second b c k) in
    let none = λ (all : IsEmpty both) (j : ℕ). or_parts (has_number first j) (has_number second j) (sym (is j) ∙ all j) in
    record { stays = l.stays; went = l.went; same = λ all. k.same (λ j. (none all j).1) ∙ h.same (λ j. (none all j).0) }
