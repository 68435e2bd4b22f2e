-- Sets of numbers, one within another, and what a group of squares strikes.
use Rattle.std.proofs.lemmas.Bool.Decides.{nat_tests}
use Rattle.std.proofs.Common.{◌≡◌, ◌↔◌, ℕ, ◌*◌, ◌<◌, Bool, true, false, nat_le, ◌&&◌, not, refl, sym, ap, ◌∙◌, subst, count_ones, arith}
use Rattle.std.specs.Bool.{IsTrue, MatchBool}
use Rattle.std.proofs.lemmas.Bool.{both_ways, and_parts, and_from, true_from_ne_false, not_from_false, false≢true}
use Rattle.number_sets.specs.Sets.{has_number, IsEmpty, IsSubset}
use Rattle.trail_solver.specs.Pairs.{IsPair}
use Rattle.trail_solver.specs.Candidates.{CandidatesValue}
use Rattle.latin_board.specs.Lines.{line_cell}
use Rattle.line_steps.specs.Left.{IsLeft}
use Rattle.line_steps.specs.Reasons.{IsBySet}
use Rattle.line_steps.specs.Inner.Groups.{AreAmong, IsOther}
use Rattle.line_steps.proofs.GivenSets.{up_to_pair}

-- a set is within another exactly if nothing is left of it without that
subset_tested : (b : Bool) (set values rest : ℕ) → ((n : ℕ) → has_number rest n ≡ (has_number set n && not (has_number values n)))
    → MatchBool b (IsEmpty rest) ((n : ℕ) × (has_number rest n ≡ true)) → IsTrue b ↔ IsSubset set values
subset_tested true set values rest is h = grind (arith, nat_tests, true_from_ne_false, both_ways, and_from, not_from_false)
subset_tested false set values rest is h = (
  λ e. absurd (false≢true e),
  λ sub.
      let both = and_parts (has_number set h.0) (not (has_number values h.0)) (sym (is h.0) ∙ h.1) in
      absurd (both_ways (not (has_number values h.0)) (ap not (sub h.0 both.0)) both.1),
)

-- a set of which nothing is left without another is within that
pub within_none : (set values rest : ℕ) → ((n : ℕ) → has_number rest n ≡ (has_number set n && not (has_number values n))) → IsEmpty rest
    → IsSubset set values
within_none set values rest is none = (subset_tested true set values rest is none).0 refl

-- a set of which something is left without another is not within that
pub within_some : (set values rest : ℕ) (n : ℕ) → ((n : ℕ) → has_number rest n ≡ (has_number set n && not (has_number values n)))
    → has_number rest n ≡ true → IsSubset set values → ⊥
within_some set values rest n is has sub = absurd (false≢true ((subset_tested false set values rest is (n, has)).1 sub))

-- the group's values, so far as they are of the size, are those that it strikes in another square of the line
pub set_struck : (c : CandidatesValue) (line squares values cell all result v : ℕ) → line < 2 * c.size
    → ((k : ℕ) → has_number squares k ≡ true → k < c.size) → cell < c.size * c.size → count_ones values ≡ count_ones squares
    → IsOther c.size line squares cell → AreAmong c line squares values → ((k : ℕ) → has_number all k ≡ (nat_le 1 k && nat_le k c.size))
    → ((n : ℕ) → has_number result n ≡ (has_number values n && has_number all n))
    → (has_number result v ≡ true) ↔ (IsPair c.size cell v × IsBySet c.size c line squares values cell v)
set_struck c line squares values cell all result v line_is small inside same other among members meet =
    let pairs = up_to_pair c.size cell all v inside members in (
      λ has.
          let both = and_parts (has_number values v) (has_number all v) (sym (meet v) ∙ has) in (
            pairs.0 both.1,
            record {
              line_is = line_is;
              inside = small;
              same = same;
              among = among;
              index = other.0;
              index_is = other.1;
              here = other.2;
              outside = other.3;
              one = both.0;
            },
          ),
      λ h. meet v ∙ and_from (has_number values v) (has_number all v) h.1.one (pairs.1 h.0),
    )

-- a group that strikes has as many values as squares and no others left, and the struck square is outside it
pub set_idle : (w : ℕ) (c : CandidatesValue) (line squares values cell v : ℕ) → w ≡ c.size → IsBySet w c line squares values cell v
    → (count_ones values ≡ count_ones squares) × IsOther w line squares cell × AreAmong c line squares values
set_idle w c line squares values cell v size h = (
  h.same,
  (h.index, h.index_is, h.here, h.outside),
  subst (λ (n : ℕ). (k v : ℕ) → has_number squares k ≡ true → IsLeft c (line_cell n line k) v → has_number values v ≡ true) size h.among,
)
