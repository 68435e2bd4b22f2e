-- Values that are taken away, square by square, and the steps that this is.
use Rattle.std.proofs.lemmas.Bool.Decides.{nat_tests}
use Rattle.std.proofs.Common.{◌≡◌, ℕ, ◌≤◌, true, false, ◌&&◌, ◌||◌, ◌==◌, List, [], ◌∷◌, ◌++◌, length, inl, inr, refl, sym, ap, ◌∙◌, subst, arith, append_assoc, append-nil, length-append}
use Rattle.std.proofs.lemmas.Bool.{both_ways, and_parts, and_from, or_left, or_right, eq-eqb, eqb-true, cases_Bool}
use Rattle.trail_solver.specs.Pairs.{IsPair, IsPrefix, has_pair}
use Rattle.trail_solver.specs.Candidates.{CandidatesValue, IsEarlier}
use Rattle.trail_solver.proofs.Earlier.{prefix-append}
use Rattle.line_steps.specs.Left.{IsFewer, without}
use Rattle.line_steps.specs.Grades.{has_reason}
use Rattle.line_steps.specs.Chains.{StepValue, IsChain, AreOfGrade, left_by, LeadsTo}
use Rattle.line_steps.specs.Takes.{Takes}
use Rattle.line_steps.proofs.Chains.{IsAntitone, left_size, left_fewer, chain_joined, left_append}
use Rattle.line_steps.proofs.Takes.{without_fewer, HasMore, same_more}
use Rattle.line_steps.specs.declared.reason.Reason.{Reason}
use Rattle.line_steps.specs.declared.grade.Grade.{Grade}
use Rattle.line_steps.specs.Reasons.{Striking}

-- ---- steps

-- steps of a grade, followed by steps of the grade, are steps of the grade
pub allowed_joined : (grade : Grade) (front back : List StepValue) → AreOfGrade grade front → AreOfGrade grade back → AreOfGrade grade (front ++ back)
allowed_joined grade [] back first second = second
allowed_joined grade (step ∷ front) back first second = (first.0, allowed_joined grade front back first.1 second)

-- a chain to b and one from there to c make a chain to c
pub leads_on : (Struck : Striking) (grade : Grade) (a b c : CandidatesValue) → LeadsTo Struck grade a b
    → LeadsTo Struck grade b c → LeadsTo Struck grade a c
leads_on Struck grade a b c h k = grind (arith, nat_tests, chain_joined, allowed_joined, left_append)

-- a chain leaves the size as it was
pub leads_size : (Struck : Striking) (grade : Grade) (a b : CandidatesValue) → LeadsTo Struck grade a b → b.size ≡ a.size
leads_size Struck grade a b h = ap (λ (d : CandidatesValue). d.size) h.is ∙ left_size a h.steps

-- the steps of a chain make the trail longer, or leave it as it was
left_more : (c : CandidatesValue) (steps : List StepValue) → HasMore c (left_by c steps)
left_more c [] = record { pairs = []; size = refl; trail = sym (append-nil c.trail) }
left_more c (step ∷ steps) =
    let rest = left_more (without c step.strikes) steps in
    record {
      pairs = step.strikes ++ rest.pairs;
      size = rest.size;
      trail = rest.trail ∙ append_assoc c.trail step.strikes rest.pairs;
    }

-- a chain makes the trail longer, or leaves it as it was
leads_more : (Struck : Striking) (grade : Grade) (a b : CandidatesValue) → LeadsTo Struck grade a b → HasMore a b
leads_more Struck grade a b h = subst (λ d. HasMore a d) (sym h.is) (left_more a h.steps)

-- a chain makes the trail no shorter
pub leads_length : (Struck : Striking) (grade : Grade) (a b : CandidatesValue) → LeadsTo Struck grade a b
    → length a.trail ≤ length b.trail
leads_length Struck grade a b h =
    let m = leads_more Struck grade a b h in
    omega (arith, ap length m.trail, length-append a.trail m.pairs)

-- a chain adds to the trail only at its end
pub leads_earlier : (Struck : Striking) (grade : Grade) (a b : CandidatesValue) → LeadsTo Struck grade a b → IsEarlier a b
leads_earlier Struck grade a b h =
    let m = leads_more Struck grade a b h in
    record {
      size = m.size;
      adds = let P : List (ℕ × ℕ) → Type 0 = λ ps. IsPrefix a.trail ps in subst P (sym m.trail) (prefix-append a.trail m.pairs);
    }

-- what is left at the end of a chain was left before
pub leads_fewer : (Struck : Striking) (grade : Grade) (a b : CandidatesValue) → LeadsTo Struck grade a b → IsFewer a b
leads_fewer Struck grade a b h = subst (λ d. IsFewer a d) (sym h.is) (left_fewer a h.steps)

-- a chain that leaves the trail as long as it was changes nothing
pub leads_same : (Struck : Striking) (grade : Grade) (a b : CandidatesValue) → LeadsTo Struck grade a b
    → length b.trail ≡ length a.trail → b ≡ a
leads_same Struck grade a b h e = same_more a b (leads_more Struck grade a b h) e

-- a reason of the grade strikes the pair
abbrev pub HasStruck : Striking → Grade → CandidatesValue → ℕ → ℕ → Type 0
HasStruck Struck grade c cell v = (reason : Reason) × (has_reason grade reason ≡ true) × Struck c reason cell v

-- a pair of a list of one is that one
one_pair : (p : ℕ × ℕ) (cell v : ℕ) → has_pair (p ∷ []) cell v ≡ true → (cell ≡ p.0) × (v ≡ p.1)
one_pair p cell v has =
    let first : ((cell == p.0) && (v == p.1)) ≡ true = elim (cases_Bool ((cell == p.0) && (v == p.1))) [
      | inl is ↦ is
      | inr absent ↦ absurd (both_ways (has_pair (p ∷ []) cell v) (ap (λ b. b || false) absent) has)
    ] in
    let both = and_parts (cell == p.0) (v == p.1) first in
    (eqb-true cell p.0 both.0, eqb-true v p.1 both.1)

-- a list has its first pair
first_has : (p : ℕ × ℕ) (ps : List (ℕ × ℕ)) → has_pair (p ∷ ps) p.0 p.1 ≡ true
first_has p ps = or_left ((p.0 == p.0) && (p.1 == p.1)) (has_pair ps p.0 p.1) (and_from (p.0 == p.0) (p.1 == p.1) (eq-eqb p.0 p.0 refl) (eq-eqb p.1 p.1 refl))

-- a list of pairs that the grade's reasons strike is taken away by a chain, pair by pair
pairs_lead : (Struck : Striking) → IsAntitone Struck → (grade : Grade) (a b : CandidatesValue) → IsFewer a b
    → (ps : List (ℕ × ℕ)) → ((cell v : ℕ) → has_pair ps cell v ≡ true → IsPair b.size cell v × HasStruck Struck grade a cell v)
    → LeadsTo Struck grade b (without b ps)
pairs_lead Struck less grade a b fewer [] each = record {
  steps = [];
  chain = tt;
  allowed = tt;
  is = λ i. record { size = b.size; trail = append-nil b.trail i };
}
pairs_lead Struck less grade a b fewer (p ∷ ps) each =
    let here = each p.0 p.1 (first_has p ps) in
    let step : StepValue = record { reason = here.1.0; strikes = p ∷ [] } in
    let next = without b (p ∷ []) in
    let rest = pairs_lead Struck less grade a next (λ cell v left. fewer cell v (without_fewer b (p ∷ []) cell v left)) ps
    (λ cell v has. each cell v (or_right ((cell == p.0) && (v == p.1)) (has_pair ps cell v) has)) in
    record {
      steps = step ∷ rest.steps;
      chain = (
        λ cell v has.
            let is = one_pair p cell v has in
            let P : ℕ → ℕ → Type 0 = λ x y. IsPair b.size x y × Struck b here.1.0 x y in
            subst (λ (x : ℕ). P x v) (sym is.0) (subst (λ (y : ℕ). P p.0 y) (sym is.1) (here.0, less a b here.1.0 p.0 p.1 fewer here.1.2)),
        rest.chain,
      );
      allowed = (here.1.1, rest.allowed);
      is = (λ i. record { size = b.size; trail = sym (append_assoc b.trail (p ∷ []) ps) i }) ∙ rest.is;
    }

-- where a reason strikes each pair of a kind, a chain takes them away
pub leads_taken : (Struck : Striking) → IsAntitone Struck → (grade : Grade) (Which : ℕ → ℕ → Type 0) (a b : CandidatesValue)
    → Takes Which a b → ((cell v : ℕ) → IsPair a.size cell v → Which cell v → HasStruck Struck grade a cell v) → LeadsTo Struck grade a b
leads_taken Struck less grade Which a b t why =
    let lead = pairs_lead Struck less grade a a (λ cell v left. left) t.pairs (λ cell v has. let h = t.each cell v has in (h.0, why cell v h.0 h.1)) in
    let is : b ≡ without a t.pairs = λ i. record { size = t.size i; trail = t.trail i } in
    subst (λ d. LeadsTo Struck grade a d) (sym is) lead

-- ---- wider relations

-- the steps of a chain by one relation are a chain by a wider relation, and of a higher grade
wider_chain : (Less More : Striking) (lower higher : Grade)
    → ((c : CandidatesValue) (reason : Reason) (cell v : ℕ) → Less c reason cell v → More c reason cell v)
    → ((reason : Reason) → has_reason lower reason ≡ true → has_reason higher reason ≡ true) → (c : CandidatesValue) (steps : List StepValue)
    → IsChain Less c steps → AreOfGrade lower steps → IsChain More c steps × AreOfGrade higher steps
wider_chain Less More lower higher wider has c [] h of = (tt, tt)
wider_chain Less More lower higher wider has c (step ∷ steps) h of =
    let rest = wider_chain Less More lower higher wider has (without c step.strikes) steps h.1 of.1 in
    grind (arith, nat_tests, wider, has, rest)

-- candidates that a chain leads to are led to by a wider relation and a higher grade, too
pub leads_wider : (Less More : Striking) (lower higher : Grade)
    → ((c : CandidatesValue) (reason : Reason) (cell v : ℕ) → Less c reason cell v → More c reason cell v)
    → ((reason : Reason) → has_reason lower reason ≡ true → has_reason higher reason ≡ true) → (a b : CandidatesValue)
    → LeadsTo Less lower a b → LeadsTo More higher a b
leads_wider Less More lower higher wider has a b h = grind (arith, nat_tests, wider_chain)
