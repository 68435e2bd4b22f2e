-- Chains that are followed step by step on candidates that stand for what they leave.
use Rattle.std.proofs.lemmas.Grind.{common_steps}
use Rattle.std.proofs.Common.{◌≡◌, ◌↔◌, ℕ, ◌+◌, ◌-◌, ◌*◌, ◌^◌, ◌<◌, Bool, true, false, List, [], ◌∷◌, ◌++◌, length, take, drop, refl, sym, ap, ◌∙◌, subst, append-nil, append_assoc, arith}
use Rattle.std.specs.Bool.{IsTrue, MatchBool}
use Rattle.std.proofs.lemmas.List.{map-append, take-append-drop, take_rest}
use Rattle.std.proofs.lemmas.Bool.{both_ways, and_parts, and_from, eq-eqb, eqb-true, false_from_ne_true, false≢true}
use Rattle.number_sets.specs.Sets.{has_number, IsSubset}
use Rattle.trail_solver.specs.Pairs.{IsPair, has_pair, pairs_of}
use Rattle.trail_solver.specs.Candidates.{CandidatesValue}
use Rattle.trail_solver.proofs.SetPairs.{has_pair-pairs_of}
use Rattle.line_steps.specs.Left.{AreAlike, without}
use Rattle.line_steps.specs.Grades.{has_reason}
use Rattle.named_steps.specs.Chains.{IsShown, Shows}
use Rattle.line_steps.specs.Chains.{StepValue, IsStep, AreOfGrade, left_by}
use Rattle.line_steps.specs.Takes.{Strikes, Takes}
use Rattle.line_steps.proofs.Chains.{IsAntitone, chain_less, left_size, left_append, chain_split, chain_joined}
use Rattle.line_steps.proofs.Takes.{was_left, still_left, takes_struck, takes_map}
use Rattle.named_steps.proofs.Shown.{shown_less}
use Rattle.line_steps.specs.declared.grade.Grade.{Grade}
use Rattle.named_steps.specs.declared.goal.Goal.{Goal}
use Rattle.step_chains.specs.declared.chain.Step.{Step}
use Rattle.step_chains.specs.ChainValues.{step_value, steps_of}
use Rattle.step_chains.specs.Inner.Replays.{IsGradeStep, IsGradeChain, Leads}
use Rattle.line_steps.specs.Reasons.{Striking}

-- ---- one step

-- a step is one by the candidates exactly if its values are in the set that its reason strikes
pub step_by_set : (Struck : Striking) (c : CandidatesValue) (w : ℕ) (s : Step) (set : ℕ) → s.values < 2 ^ 16 → c.size ≡ w
    → ((v : ℕ) → (has_number set v ≡ true) ↔ ((c.size ≡ w) × (IsPair c.size s.cell v × Struck c s.reason s.cell v)))
    → IsSubset s.values set ↔ IsStep Struck c (step_value s)
step_by_set Struck c w s set low size is = grind (arith, and_parts, has_pair-pairs_of, eqb-true, and_from, eq-eqb)

-- values that are struck from a square go from it
pub takes_inside : (a b : CandidatesValue) (cell values : ℕ) → values < 2 ^ 16 → Strikes a b cell values
    → Takes (λ at v. has_pair (pairs_of cell values) at v ≡ true) a b
takes_inside a b cell values low struck =
    takes_map (λ at v. (at ≡ cell) × (has_number values v ≡ true)) (λ at v. has_pair (pairs_of cell values) at v ≡ true) a b
    (λ at v h. grind (arith, has_pair-pairs_of, and_from, eq-eqb))
    (λ at v pair has. grind (arith, and_parts, has_pair-pairs_of, eqb-true))
    (takes_struck a b cell values struck)

-- nothing goes by a step in a square that the grid doesn't have
pub takes_outside : (a : CandidatesValue) (cell values : ℕ) → values < 2 ^ 16 → (cell < a.size * a.size → ⊥)
    → Takes (λ at v. has_pair (pairs_of cell values) at v ≡ true) a a
takes_outside a cell values low outside = grind (arith, append-nil, and_parts, has_pair-pairs_of, eqb-true)

-- ---- the candidates that are left then

-- if the same is left of two sets of candidates, it still is once the same pairs are taken from both
pub taken_alike : (c d e : CandidatesValue) (pairs : List (ℕ × ℕ)) → d.size ≡ c.size → AreAlike c d → Takes (λ cell v. has_pair pairs cell v ≡ true) d e
    → AreAlike (without c pairs) e
taken_alike c d e pairs size alike t = grind (arith, was_left, still_left, false_from_ne_true, both_ways)

-- ---- steps one after another

-- steps of the grade and then more of them are of the grade
allowed_joined : (grade : Grade) (front back : List StepValue) → AreOfGrade grade front → AreOfGrade grade back → AreOfGrade grade (front ++ back)
allowed_joined grade [] back first second = second
allowed_joined grade (step ∷ front) back first second = (first.0, allowed_joined grade front back first.1 second)

-- if the steps of two pieces together are of the grade, so are those of each piece
pub allowed_split : (grade : Grade) (front back : List StepValue) → AreOfGrade grade (front ++ back) → AreOfGrade grade front × AreOfGrade grade back
allowed_split grade [] back h = (tt, h)
allowed_split grade (step ∷ front) back h = let rest = allowed_split grade front back h.1 in ((h.0, rest.0), rest.1)

-- a chain, and then one from the candidates to which it leads, are one chain
pub leads_joined : (Struck : Striking) → IsAntitone Struck → (grade : Grade) (c d e : CandidatesValue)
    (front back : List StepValue) → Leads Struck grade c front d → Leads Struck grade d back e → Leads Struck grade c (front ++ back) e
leads_joined Struck less grade c d e front back first second =
    let end = left_by c front in
    let size : end.size ≡ d.size = left_size c front ∙ sym first.size in
    let there = chain_less Struck less d end back (sym size) first.alike.1 second.chain in
    grind (arith, chain_less, chain_joined, allowed_joined, left_append)

-- a step of the grade is a chain to the candidates from which its pairs are taken
pub leads_one : (Struck : Striking) (grade : Grade) (d e : CandidatesValue) (s : Step) → IsGradeStep Struck grade d (step_value s)
    → Takes (λ cell v. has_pair (step_value s).strikes cell v ≡ true) d e → Leads Struck grade d (step_value s ∷ []) e
leads_one Struck grade d e s step t = grind (arith, common_steps, taken_alike)

-- if later steps are no chain of the grade from what the first ones leave, all steps together are none
pub back_breaks : (Struck : Striking) → IsAntitone Struck → (grade : Grade) (c d : CandidatesValue) (front back : List StepValue)
    → Leads Struck grade c front d → (IsGradeChain Struck grade d back → ⊥) → IsGradeChain Struck grade c (front ++ back) → ⊥
back_breaks Struck less grade c d front back first none h =
    let rest = (chain_split Struck c front back h.0).1 in
    let size : (left_by c front).size ≡ d.size = left_size c front ∙ sym first.size in
    none ((chain_less Struck less (left_by c front) d back size first.alike.0 rest).0, (allowed_split grade front back h.1).1)

-- the candidates to which steps lead show a goal exactly if the steps show it
pub shows_where : (Struck : Striking) (grade : Grade) (c d : CandidatesValue) (steps : List StepValue) (goal : Goal)
    → Leads Struck grade c steps d → IsShown d goal ↔ Shows Struck grade c steps goal
shows_where Struck grade c d steps goal h = grind (arith, left_size, shown_less)

-- a test of a step's values against the set that its reason strikes tells whether it is a step of the grade
pub step_tested : (Struck : Striking) (grade : Grade) (c : CandidatesValue) (w : ℕ) (s : Step) (set : ℕ) (b : Bool)
    → s.values < 2 ^ 16 → c.size ≡ w
    → ((v : ℕ) → (has_number set v ≡ true) ↔ ((c.size ≡ w) × (IsPair c.size s.cell v × Struck c s.reason s.cell v)))
    → MatchBool b (IsSubset s.values set) (IsSubset s.values set → ⊥) → has_reason grade s.reason ≡ true
    → IsTrue b ↔ IsGradeStep Struck grade c (step_value s)
step_tested Struck grade c w s set true low size is sub has = (λ e. (has, (step_by_set Struck c w s set low size is).0 sub), λ h. refl)
step_tested Struck grade c w s set false low size is sub has = (
  λ e. absurd (false≢true e),
  λ h. absurd (sub ((step_by_set Struck c w s set low size is).1 h.1)),
)

-- ---- chains in two pieces

-- the steps before a place and then those from it on are all steps
pub from_place : (steps : List Step) (place : ℕ) → steps_of (take place steps) ++ steps_of (take (length steps - place) (drop place steps)) ≡ steps_of steps
from_place steps place =
    ap (λ xs. steps_of (take place steps) ++ steps_of xs) (take_rest steps place)
    ∙ sym (map-append step_value (take place steps) (drop place steps)) ∙ ap steps_of (take-append-drop place steps)

-- a chain of the grade leads to candidates of which the same is left as it leaves
pub leads_known : (Struck : Striking) (grade : Grade) (c d : CandidatesValue) (steps : List StepValue)
    → IsGradeChain Struck grade c steps → d.size ≡ c.size → AreAlike (left_by c steps) d → Leads Struck grade c steps d
leads_known Struck grade c d steps chain size alike = record { chain = chain.0; allowed = chain.1; size = size; alike = alike }

-- a test of the goal on the candidates to which steps lead tells whether the steps show it
pub shows_tested : (Struck : Striking) (grade : Grade) (c d : CandidatesValue) (steps : List StepValue) (goal : Goal) (b : Bool)
    → Leads Struck grade c steps d → IsTrue b ↔ IsShown d goal → IsTrue b ↔ Shows Struck grade c steps goal
shows_tested Struck grade c d steps goal b h is = grind (arith, shows_where)

-- ---- the loop over the steps

-- the steps up to a place and then a step of the grade lead to the candidates that this one leaves
pub follows_on : (Struck : Striking) → IsAntitone Struck → (grade : Grade) (c d e : CandidatesValue) (steps : List Step)
    (i : ℕ) (s : Step) → take (i + 1) steps ≡ take i steps ++ s ∷ [] → Leads Struck grade c (steps_of (take i steps)) d
    → IsGradeStep Struck grade d (step_value s) → Takes (λ cell v. has_pair (step_value s).strikes cell v ≡ true) d e
    → Leads Struck grade c (steps_of (take (i + 1) steps)) e
follows_on Struck less grade c d e steps i s more before step t =
    let listed : steps_of (take (i + 1) steps) ≡ steps_of (take i steps) ++ step_value s ∷ [] =
    ap steps_of more ∙ map-append step_value (take i steps) (s ∷ []) in
    subst (λ xs. Leads Struck grade c xs e) (sym listed)
    (leads_joined Struck less grade c d e (steps_of (take i steps)) (step_value s ∷ []) before (leads_one Struck grade d e s step t))

-- steps of which one isn't a step of the grade where it stands are no chain of the grade
pub breaks_here : (Struck : Striking) → IsAntitone Struck → (grade : Grade) (c d : CandidatesValue) (steps : List Step)
    (i : ℕ) (s : Step) → take (i + 1) steps ≡ take i steps ++ s ∷ [] → Leads Struck grade c (steps_of (take i steps)) d
    → (IsGradeStep Struck grade d (step_value s) → ⊥) → IsGradeChain Struck grade c (steps_of steps) → ⊥
breaks_here Struck less grade c d steps i s more before none chain =
    let parts : steps ≡ take i steps ++ s ∷ drop (i + 1) steps =
    sym (take-append-drop (i + 1) steps) ∙ ap (λ xs. xs ++ drop (i + 1) steps) more ∙ append_assoc (take i steps) (s ∷ []) (drop (i + 1) steps) in
    let listed : steps_of steps ≡ steps_of (take i steps) ++ step_value s ∷ steps_of (drop (i + 1) steps) =
    ap steps_of parts ∙ map-append step_value (take i steps) (s ∷ drop (i + 1) steps) in
    back_breaks Struck less grade c d (steps_of (take i steps)) (step_value s ∷ steps_of (drop (i + 1) steps)) before
    (λ h. none (h.1.0, h.0.0)) (subst (λ xs. IsGradeChain Struck grade c xs) listed chain)
