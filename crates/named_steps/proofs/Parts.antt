-- Where no single step of a chain can be left out, no several steps can.
use Rattle.std.proofs.Common.{◌≡◌, List, [], ◌∷◌, ◌++◌, inl, inr, ◌⊎◌, refl, sym, ap, ◌∙◌, subst, arith}
use Rattle.trail_solver.specs.Candidates.{CandidatesValue}
use Rattle.line_steps.specs.Left.{IsFewer, without}
use Rattle.named_steps.specs.Chains.{Shows, IsTight}
use Rattle.line_steps.specs.Chains.{StepValue, left_by, AreOfGrade}
use Rattle.named_steps.specs.StepLaws.{IsPart}
use Rattle.line_steps.proofs.Chains.{IsAntitone, chain_less, left_size, fewer_without, left_append, chain_split, chain_joined}
use Rattle.line_steps.proofs.Takes.{without_fewer}
use Rattle.named_steps.proofs.Shown.{shown_less}
use Rattle.line_steps.specs.declared.grade.Grade.{Grade}
use Rattle.named_steps.specs.declared.goal.Goal.{Goal}
use Rattle.line_steps.specs.Reasons.{Striking}

-- the last step that a part lacks: after it the part has all
record LacksLast (part steps : List StepValue) : Type 0 where
  front : List StepValue
  step : StepValue
  back : List StepValue
  kept : List StepValue
  whole : steps ≡ front ++ step ∷ back
  is : part ≡ kept ++ back
  of : IsPart kept front

-- a part is the whole, or lacks a last step
lacks_last : (steps part : List StepValue) → IsPart part steps → (part ≡ steps) ⊎ LacksLast part steps
lacks_last [] part h = inl h
lacks_last (step ∷ steps) part h = elim h [
  | inl without_it ↦ elim (lacks_last steps part without_it) [
    | inl all ↦ inr (record { front = []; step = step; back = steps; kept = []; whole = refl; is = all; of = refl })
    | inr l ↦ inr (record {
      front = step ∷ l.front;
      step = l.step;
      back = l.back;
      kept = l.kept;
      whole = ap (λ xs. step ∷ xs) l.whole;
      is = l.is;
      of = inl l.of;
    })
  ]
  | inr with_it ↦ elim (lacks_last steps with_it.0 with_it.2) [
    | inl all ↦ inl (with_it.1 ∙ ap (λ xs. step ∷ xs) all)
    | inr l ↦ inr (record {
      front = step ∷ l.front;
      step = l.step;
      back = l.back;
      kept = step ∷ l.kept;
      whole = ap (λ xs. step ∷ xs) l.whole;
      is = with_it.1 ∙ ap (λ xs. step ∷ xs) l.is;
      of = inr (l.kept, refl, l.of);
    })
  ]
]

-- a part leaves what the whole leaves
part_fewer : (steps part : List StepValue) (c d : CandidatesValue) → IsFewer c d → IsPart part steps → IsFewer (left_by c part) (left_by d steps)
part_fewer [] part c d fewer h = subst (λ xs. IsFewer (left_by c xs) d) (sym h) fewer
part_fewer (step ∷ steps) part c d fewer h = elim h [
  | inl without_it ↦
      part_fewer steps part c (without d step.strikes) (λ cell value left. fewer cell value (without_fewer d step.strikes cell value left)) without_it
  | inr with_it ↦
      subst (λ xs. IsFewer (left_by c xs) (left_by (without d step.strikes) steps)) (sym with_it.1)
      (part_fewer steps with_it.0 (without c step.strikes) (without d step.strikes) (fewer_without c d step.strikes fewer) with_it.2)
]

-- ---- a chain in two pieces

-- without one of them, steps of a grade are steps of the grade
grade_split : (grade : Grade) (front back : List StepValue) (step : StepValue) → AreOfGrade grade (front ++ step ∷ back) → AreOfGrade grade (front ++ back)
grade_split grade [] back step h = h.1
grade_split grade (first ∷ front) back step h = (h.0, grade_split grade front back step h.1)

-- ---- parts that show the goal

-- if a part shows the goal, so do all steps but the last one that the part lacks
shows_more : (Struck : Striking) → IsAntitone Struck → (grade : Grade) (c : CandidatesValue)
    (front back kept : List StepValue) (step : StepValue) (goal : Goal) → Shows Struck grade c (front ++ step ∷ back) goal → IsPart kept front
    → Shows Struck grade c (kept ++ back) goal → Shows Struck grade c (front ++ back) goal
shows_more Struck less grade c front back kept step goal whole of part =
    let before = (chain_split Struck c front (step ∷ back) whole.chain).0 in
    let behind = (chain_split Struck c kept back part.chain).1 in
    let size : (left_by c kept).size ≡ (left_by c front).size = left_size c kept ∙ sym (left_size c front) in
    let more = chain_less Struck less (left_by c kept) (left_by c front) back size (part_fewer front kept c c (λ cell value h. h) of) behind in
    grind (arith, chain_joined, grade_split, shown_less, left_size, left_append)

-- a part of a chain that shows its goal is the whole chain, if none of the steps can be left out
pub tight_least : (Struck : Striking) → IsAntitone Struck → (grade : Grade) (c : CandidatesValue)
    (steps part : List StepValue) (goal : Goal) → Shows Struck grade c steps goal → IsTight Struck grade c steps goal → IsPart part steps
    → Shows Struck grade c part goal → part ≡ steps
tight_least Struck less grade c steps part goal whole tight of shows = elim (lacks_last steps part of) [
  | inl all ↦ all
  | inr l ↦
      absurd (tight l.front l.back l.step l.whole (shows_more Struck less grade c l.front l.back l.kept l.step goal
      (subst (λ xs. Shows Struck grade c xs goal) l.whole whole) l.of (subst (λ xs. Shows Struck grade c xs goal) l.is shows)))
]
