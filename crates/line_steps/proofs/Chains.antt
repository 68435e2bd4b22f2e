-- Chains of steps: one after another, and from fewer candidates.
use Rattle.std.proofs.lemmas.Bool.Decides.{nat_tests}
use Rattle.std.proofs.Common.{◌≡◌, ℕ, true, List, [], ◌∷◌, refl, subst, ◌++◌, ◌≤◌, arith}
use Rattle.std.proofs.lemmas.Bool.{le-leb, leb-true}
use Rattle.trail_solver.specs.Pairs.{IsPair}
use Rattle.trail_solver.specs.Candidates.{CandidatesValue}
use Rattle.line_steps.specs.Left.{IsFewer, without}
use Rattle.line_steps.proofs.Takes.{was_left, still_left, without_fewer}
use Rattle.line_steps.specs.Grades.{has_reason, least_grade, rank}
use Rattle.line_steps.specs.Chains.{StepValue, IsStep, IsChain, left_by}
use Rattle.line_steps.specs.declared.reason.Reason.{Reason}
use Rattle.line_steps.specs.declared.grade.Grade.{Grade}
use Rattle.line_steps.specs.Reasons.{Striking}

-- what is struck from candidates is struck from fewer of the same size
abbrev pub IsAntitone : Striking → Type 0
IsAntitone Struck =
    (c d : CandidatesValue) (reason : Reason) (cell value : ℕ) → IsFewer c d → Struck c reason cell value → Struck d reason cell value

-- fewer candidates stay fewer when both lose the same pairs
pub fewer_without : (c d : CandidatesValue) (pairs : List (ℕ × ℕ)) → IsFewer c d → IsFewer (without c pairs) (without d pairs)
fewer_without c d pairs fewer = λ cell value h.
    let was = was_left d pairs cell value h in
    still_left c pairs cell value (fewer cell value was.0) was.1

-- a step from candidates is a step from fewer of the same size
pub step_less : (Struck : Striking) → IsAntitone Struck → (c d : CandidatesValue) (step : StepValue)
    → c.size ≡ d.size → IsFewer c d → IsStep Struck c step → IsStep Struck d step
step_less Struck less c d step size fewer h = λ cell value has.
    let was = h cell value has in
    (subst (λ (w : ℕ). IsPair w cell value) size was.0, less c d step.reason cell value fewer was.1)

-- a chain from candidates is a chain from fewer of the same size, and leaves fewer there
pub chain_less : (Struck : Striking) → IsAntitone Struck → (c d : CandidatesValue) (steps : List StepValue)
    → c.size ≡ d.size → IsFewer c d → IsChain Struck c steps → IsChain Struck d steps × IsFewer (left_by c steps) (left_by d steps)
chain_less Struck less c d [] size fewer h = grind (arith, nat_tests)
chain_less Struck less c d (step ∷ steps) size fewer h =
    let rest = chain_less Struck less (without c step.strikes) (without d step.strikes) steps size (fewer_without c d step.strikes fewer) h.1 in
    grind (arith, nat_tests, step_less, rest)

-- what a chain leaves is left of the start
pub left_fewer : (c : CandidatesValue) (steps : List StepValue) → IsFewer c (left_by c steps)
left_fewer c [] = λ cell value h. h
left_fewer c (step ∷ steps) = λ cell value h. without_fewer c step.strikes cell value (left_fewer (without c step.strikes) steps cell value h)

-- a chain leaves the size as it was
pub left_size : (c : CandidatesValue) (steps : List StepValue) → (left_by c steps).size ≡ c.size
left_size c [] = refl
left_size c (step ∷ steps) = left_size (without c step.strikes) steps

-- two chains, one after the other, leave what the second leaves of what the first does
pub left_append : (c : CandidatesValue) (front back : List StepValue) → left_by c (front ++ back) ≡ left_by (left_by c front) back
left_append c [] back = refl
left_append c (step ∷ front) back = left_append (without c step.strikes) front back

-- each of the two pieces of a chain is a chain, the second from what the first leaves
pub chain_split : (Struck : Striking) (c : CandidatesValue) (front back : List StepValue) → IsChain Struck c (front ++ back)
    → IsChain Struck c front × IsChain Struck (left_by c front) back
chain_split Struck c [] back h = (tt, h)
chain_split Struck c (step ∷ front) back h =
    let rest = chain_split Struck (without c step.strikes) front back h.1 in
    ((h.0, rest.0), rest.1)

-- two chains, one after the other, are one
pub chain_joined : (Struck : Striking) (c : CandidatesValue) (front back : List StepValue) → IsChain Struck c front
    → IsChain Struck (left_by c front) back → IsChain Struck c (front ++ back)
chain_joined Struck c [] back first second = second
chain_joined Struck c (step ∷ front) back first second = (first.0, chain_joined Struck (without c step.strikes) front back first.1 second)

-- a grade has the kinds of those below it
pub higher_has : (lower higher : Grade) → rank lower ≤ rank higher → (reason : Reason) → has_reason lower reason ≡ true
    → has_reason higher reason ≡ true
higher_has lower higher up reason has =
    let least : rank (least_grade reason) ≤ rank lower = leb-true (rank (least_grade reason)) (rank lower) has in
    le-leb (rank (least_grade reason)) (rank higher) (omega (arith, least, up))
