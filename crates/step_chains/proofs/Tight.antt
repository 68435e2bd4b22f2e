-- Chains from which steps are left out, the last first.
use Rattle.std.proofs.Common.{◌≡◌, ℕ, zero, suc, ◌+◌, ◌<◌, ◌≤◌, List, [], ◌∷◌, ◌++◌, length, refl, sym, ap, ◌∙◌, subst, arith, append_assoc, length-append}
use Rattle.std.specs.List.{remove}
use Rattle.std.proofs.Math.Seq.{take-append_seam, drop-append-add}
use Rattle.std.proofs.lemmas.List.{take-map, drop-map, map-append}
use Rattle.trail_solver.specs.Candidates.{CandidatesValue}
use Rattle.line_steps.specs.Left.{IsFewer, without}
use Rattle.named_steps.specs.Chains.{Shows}
use Rattle.line_steps.specs.Chains.{StepValue, AreOfGrade, left_by}
use Rattle.line_steps.proofs.Chains.{IsAntitone, chain_less, left_size, left_append, chain_split, chain_joined}
use Rattle.line_steps.proofs.Takes.{without_fewer}
use Rattle.named_steps.proofs.Shown.{shown_less}
use Rattle.line_steps.specs.declared.grade.Grade.{Grade}
use Rattle.named_steps.specs.declared.goal.Goal.{Goal}
use Rattle.step_chains.specs.declared.chain.Step.{Step}
use Rattle.step_chains.specs.ChainValues.{steps_of}
use Rattle.step_chains.specs.Inner.Tight.{IsTightFrom}
use Rattle.line_steps.specs.Reasons.{Striking}

-- ---- a list without one of its elements

-- without the element after its front, a list is the front and then the back
pub remove_at : {X : Type 0} (front back : List X) (x : X) → remove (front ++ x ∷ back) (length front) ≡ front ++ back
remove_at front back x = grind (arith, drop-append-add, take-append_seam)

-- each place of a list has a front, an element and a back
pub parted : {X : Type 0} (xs : List X) (place : ℕ) → place < length xs
    → (front : List X) × (x : X) × (back : List X) × (xs ≡ front ++ x ∷ back) × (length front ≡ place)
parted [] place low = absurd (omega (arith, low))
parted (x ∷ xs) zero low = ([], x, xs, refl, refl)
parted (x ∷ xs) (suc place) low =
    let rest = parted xs place (omega (arith, low)) in
    (x ∷ rest.0, rest.1, rest.2, ap (λ ys. x ∷ ys) rest.3, omega (arith, rest.4))

cons_parts : {X : Type 0} (x y : X) (xs ys : List X) → x ∷ xs ≡ y ∷ ys → (x ≡ y) × (xs ≡ ys)
cons_parts x y xs ys same = (cc, cc)

-- a longer front of the same list begins with the shorter one
pub fronts_part : {X : Type 0} (short back long rest : List X) → short ++ back ≡ long ++ rest → length short ≤ length long
    → (more : List X) × (long ≡ short ++ more) × (back ≡ more ++ rest)
fronts_part [] back long rest same low = (long, refl, same)
fronts_part (x ∷ short) back [] rest same low = absurd (omega (arith, low))
fronts_part (x ∷ short) back (y ∷ long) rest same low = grind (arith, cons_parts, (fronts_part short back long rest))

-- the values of steps without one are the steps' values without the one at its place
pub steps_removed : (steps : List Step) (place : ℕ) → steps_of (remove steps place) ≡ remove (steps_of steps) place
steps_removed steps place = grind (arith, map-append, take-map, drop-map)

-- ---- chains with a step more or less

with_allowed : (grade : Grade) (front back rest : List StepValue) (step : StepValue) → AreOfGrade grade (front ++ step ∷ back) → AreOfGrade grade (front ++ rest)
    → AreOfGrade grade (front ++ step ∷ rest)
with_allowed grade [] back rest step whole part = (whole.0, part)
with_allowed grade (first ∷ front) back rest step whole part = (whole.0, with_allowed grade front back rest step whole.1 part.1)

-- if other steps show the goal after a step's front, they show it after the step, too
pub shows_with : (Struck : Striking) → IsAntitone Struck → (grade : Grade) (c : CandidatesValue)
    (front back rest : List StepValue) (step : StepValue) (goal : Goal) → Shows Struck grade c (front ++ step ∷ back) goal
    → Shows Struck grade c (front ++ rest) goal → Shows Struck grade c (front ++ step ∷ rest) goal
shows_with Struck less grade c front back rest step goal whole part =
    let end = left_by c front in
    let at = (chain_split Struck c front (step ∷ back) whole.chain).1.0 in
    let after = chain_less Struck less end (without end step.strikes) rest refl (without_fewer end step.strikes)
    (chain_split Struck c front rest part.chain).1 in
    grind (arith, chain_joined, chain_split, with_allowed, shown_less, left_size, left_append)

-- a chain that shows a goal from some candidates shows it from fewer
pub shows_alike : (Struck : Striking) → IsAntitone Struck → (grade : Grade) (c d : CandidatesValue)
    (steps : List StepValue) (goal : Goal) → c.size ≡ d.size → IsFewer c d → Shows Struck grade c steps goal → Shows Struck grade d steps goal
shows_alike Struck less grade c d steps goal size fewer h =
    let there = chain_less Struck less c d steps size fewer h.chain in
    grind (arith, shown_less, left_size)

-- ---- one pass from the last step to the first

-- if no step after one can be left out, none can once that one goes
pub tight_without : (Struck : Striking) → IsAntitone Struck → (grade : Grade) (c : CandidatesValue)
    (steps : List StepValue) (place : ℕ) (goal : Goal) → place < length steps → Shows Struck grade c steps goal
    → IsTightFrom (place + 1) Struck grade c steps goal → IsTightFrom place Struck grade c (remove steps place) goal
tight_without Struck less grade c steps place goal low whole tight = λ front back step is behind shows.
    let at = parted steps place low in
    let rest : remove steps place ≡ at.0 ++ at.2 =
    (λ i. remove (at.3 i) (sym at.4 i)) ∙ remove_at at.0 at.2 at.1 in
    let more = fronts_part at.0 at.2 front (step ∷ back) (sym rest ∙ is) (omega (arith, at.4, behind)) in
    let with_it = shows_with Struck less grade c at.0 at.2 (more.0 ++ back) at.1 goal (subst (λ xs. Shows Struck grade c xs goal) at.3 whole)
    (subst (λ xs. Shows Struck grade c xs goal) (ap (λ xs. xs ++ back) more.1 ∙ append_assoc at.0 more.0 back) shows) in
    tight (at.0 ++ at.1 ∷ more.0) back step
    (at.3 ∙ ap (λ xs. at.0 ++ at.1 ∷ xs) more.2 ∙ sym (append_assoc at.0 (at.1 ∷ more.0) (step ∷ back)))
    (omega (arith, at.4, length-append at.0 (at.1 ∷ more.0)))
    (subst (λ xs. Shows Struck grade c xs goal) (sym (append_assoc at.0 (at.1 ∷ more.0) back)) with_it)
