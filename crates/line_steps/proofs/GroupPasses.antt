-- The strikes of groups of a line's squares, by the sets of what is left of these.
use Rattle.std.proofs.lemmas.Bool.Decides.{nat_tests}
use Rattle.std.proofs.Common.{Bool, ◌≡◌, ◌↔◌, ℕ, ◌+◌, ◌*◌, ◌^◌, ◌⊎◌, ◌<◌, true, false, ◌||◌, List, slice_index, count_ones, inl, inr, refl, sym, ap, ◌∙◌, subst, arith}
use Rattle.std.proofs.lemmas.Bool.{both_ways, false_from_ne_true, or_left, or_right, cases_eq, cases_Bool}
use Rattle.number_sets.specs.Sets.{has_number, IsSubset}
use Rattle.number_sets.proofs.Members.{below_from_number, same_set}
use Rattle.trail_solver.specs.Candidates.{CandidatesValue, may_be}
use Rattle.line_steps.specs.Reasons.{IsByLine}
use Rattle.line_steps.specs.Chains.{LeadsTo}
use Rattle.line_steps.specs.Takes.{Takes}
use Rattle.line_steps.specs.Inner.Groups.{IsGroupQuiet, IsUnionOf, IsStruckBelow}
use Rattle.line_steps.specs.Inner.LineSets.{AreLineSets}
use Rattle.line_steps.proofs.Counts.{several_counted}
use Rattle.line_steps.proofs.Takes.{IsInRow}
use Rattle.line_steps.specs.Laws.Less.{line_less}
use Rattle.line_steps.proofs.Leads.{HasStruck, leads_taken}
use Rattle.line_steps.specs.declared.reason.Reason.TheVariants.{Set}
use Rattle.line_steps.specs.declared.grade.Grade.TheVariants.{Hard}

-- ---- groups of some sets

-- sets that are within one another are the same
same_subsets : (a b : ℕ) → IsSubset a b → IsSubset b a → a ≡ b
same_subsets a b f g = same_set a b (λ v. elim (cases_Bool (has_number a v)) [
  | inl has ↦ has ∙ sym (f v has)
  | inr lacks ↦ lacks ∙ sym (false_from_ne_true (has_number b v) (λ there. both_ways (has_number a v) lacks (g v there)))
])

-- two sets of the numbers of the same sets are the same
same_union : (sets : List ℕ) (squares one other : ℕ) → IsUnionOf sets squares one → IsUnionOf sets squares other → one ≡ other
same_union sets squares one other u w =
    same_subsets one other (λ v has. let k = u.only v has in w.all k.0 v k.1 k.2) (λ v has. let k = w.only v has in u.all k.0 v k.1 k.2)

-- the union of the sets before place k, with the set at k, is the union of those before k + 1
pub united_on : (sets : List ℕ) (squares values here all k v : ℕ)
    → (has_number values v ≡ true) ↔ ((j : ℕ) × (j < k) × (has_number squares j ≡ true) × (has_number (slice_index sets j) v ≡ true))
    → (has_number here v ≡ true) ↔ ((has_number squares k ≡ true) × (has_number (slice_index sets k) v ≡ true))
    → has_number all v ≡ (has_number values v || has_number here v)
    → (has_number all v ≡ true) ↔ ((j : ℕ) × (j < k + 1) × (has_number squares j ≡ true) × (has_number (slice_index sets j) v ≡ true))
united_on sets squares values here all k v before now both = grind (arith, nat_tests, cases_Bool, cases_eq, or_right, slice_index, or_left)

-- ---- groups below a bound

-- a bound that, as a set, isn't within the squares with several values adds no group
pub struck_past : (sets : List ℕ) (several bound k v : ℕ) (now : Bool) → (IsSubset bound several → ⊥)
    → (now ≡ true) ↔ IsStruckBelow sets several bound k v → (now ≡ true) ↔ IsStruckBelow sets several (bound + 1) k v
struck_past sets several bound k v now none is = (
  λ has. let (group, union, low, h, lacks, one) = is.0 has in (group, union, omega (arith, low), h, lacks, one),
  λ (group, union, low, h, lacks, one). elim (cases_eq group bound) [
    | inl same ↦ absurd (none (subst (λ (n : ℕ). IsSubset n several) same h.within))
    | inr other ↦ is.1 (group, union, omega (arith, low, other), h, lacks, one)
  ],
)

-- a bound that, as a set, is within the squares with several values adds what it strikes as a group
pub struck_on : (sets : List ℕ) (several bound values k v : ℕ) (before after : Bool) → IsSubset bound several → IsUnionOf sets bound values
    → (before ≡ true) ↔ IsStruckBelow sets several bound k v
    → (after ≡ true) ↔ ((before ≡ true) ⊎ ((count_ones values ≡ count_ones bound) × (has_number bound k ≡ false) × (has_number values v ≡ true)))
    → (after ≡ true) ↔ IsStruckBelow sets several (bound + 1) k v
struck_on sets several bound values k v before after sub u was is = (
  λ has. elim (is.0 has) [
    | inl old ↦ let (group, union, low, h, lacks, one) = was.0 old in (group, union, omega (arith, low), h, lacks, one)
    | inr new ↦ (bound, values, omega arith, record { within = sub; is = u; same = new.0 }, new.1, new.2)
  ],
  λ (group, union, low, h, lacks, has). elim (cases_eq group bound) [
    | inl same ↦
        let one : union ≡ values = same_union sets bound union values (subst (λ (n : ℕ). IsUnionOf sets n union) same h.is) u in
        is.1 (inr (
          ap count_ones (sym one) ∙ h.same ∙ ap count_ones same,
          subst (λ (n : ℕ). has_number n k ≡ false) same lacks,
          subst (λ (n : ℕ). has_number n v ≡ true) one has,
        ))
    | inr other ↦ is.1 (inl (was.1 (group, union, omega (arith, low, other), h, lacks, has)))
  ],
)

-- ---- groups of what is left

-- the row has what groups of the squares with several values strike
pub record IsStruckRow (w : ℕ) (sets : List ℕ) (several : ℕ) (row : List ℕ) : Type 0 where
  pub several_is : (k : ℕ) → (has_number several k ≡ true) ↔ ((k < w) × (1 < count_ones (slice_index sets k)))
  pub struck : (k v : ℕ) → k < w → (has_number (slice_index row k) v ≡ true) ↔ IsStruckBelow sets several (2 ^ w) k v

-- each value in a row of what groups strike is struck by a reason: a group of squares with its values
group_reason : (c : CandidatesValue) (line : ℕ) (sets : List ℕ) (several : ℕ) (row : List ℕ) (cell v : ℕ) → line < 2 * c.size
    → AreLineSets c line c.size sets → IsStruckRow c.size sets several row → IsInRow c.size line row cell v → HasStruck (IsByLine c.size) Hard c cell v
group_reason c line sets several row cell v line_is are r (k, low, here, has) =
    let (group, union, below, h, lacks, one) = (r.struck k v low).0 has in
    let inside : (j : ℕ) → has_number group j ≡ true → j < c.size = λ j is. ((r.several_is j).0 (h.within j is)).0 in (
      Set line group union,
      refl,
      record {
        line_is = line_is;
        inside = inside;
        same = h.same;
        among = λ j u is left. h.is.all j u is ((are.each j (inside j is) u).1 (left.pair, left.may));
        index = k;
        index_is = low;
        here = here;
        outside = lacks;
        one = one;
      },
    )

-- taking away a row of the values that groups strike is a chain of group reasons
pub group_leads : (line : ℕ) (sets : List ℕ) (several : ℕ) (row : List ℕ) (a b : CandidatesValue) → line < 2 * a.size → AreLineSets a line a.size sets
    → IsStruckRow a.size sets several row → Takes (IsInRow a.size line row) a b → LeadsTo (IsByLine a.size) Hard a b
group_leads line sets several row a b line_is are r t =
    leads_taken (IsByLine a.size) (line_less a.size) Hard (IsInRow a.size line row) a b t
    (λ cell v pair h. group_reason a line sets several row cell v line_is are r h)

-- if nothing goes when a row of what groups strike is taken away, groups strike nothing that is left
pub group_calm : (line : ℕ) (sets : List ℕ) (several : ℕ) (row : List ℕ) (a b : CandidatesValue) → AreLineSets a line a.size sets
    → IsStruckRow a.size sets several row → Takes (IsInRow a.size line row) a b → b ≡ a → IsGroupQuiet line a
group_calm line sets several row a b are r t same cell v pair h =
    let low : (k : ℕ) → has_number h.squares k ≡ true → k < a.size = λ k has. below_from_number h.squares a.size k h.below has in
    let by : IsStruckBelow sets several (2 ^ a.size) h.index v = (
      h.squares,
      h.union,
      h.below,
      record {
        within = λ k has.
            let s = h.several k has in
            let set = are.each k (low k has) in
            (r.several_is k).1 (
              low k has,
              several_counted (slice_index sets k) s.0 s.1 s.2 ((set s.0).1 (s.3.pair, s.3.may)) ((set s.1).1 (s.4.pair, s.4.may)),
            );
        is = record {
          all = λ k u has in_set.
              let left = (are.each k (low k has) u).0 in_set in
              h.is.all k u has (record { pair = left.0; may = left.1 });
          only = λ u has.
              let k = h.is.only u has in
              (k.0, k.1, (are.each k.0 (low k.0 k.1) u).1 (k.2.pair, k.2.may));
        };
        same = h.same;
      },
      h.outside,
      h.one,
    ) in
    subst (λ (d : CandidatesValue). may_be d cell v ≡ false) same
    (t.gone cell v pair (h.index, h.index_is, h.here, (r.struck h.index v h.index_is).1 by))
