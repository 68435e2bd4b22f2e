-- Chains of which no number can be left out.
use Rattle.std.proofs.lemmas.Grind.{common_steps}
use Rattle.std.proofs.Common.{◌≡◌, ◌↔◌, ℕ, ◌+◌, ◌^◌, ◌<◌, ◌≤◌, true, false, List, [], ◌∷◌, ◌++◌, length, refl, sym, ap, ◌∙◌, subst, arith, append_assoc, inl, inr}
use Rattle.std.specs.List.{remove}
use Rattle.std.specs.Prelude.{slice_set, slice_index_or}
use Rattle.std.proofs.Math.Seq.{get_or-append_seam}
use Rattle.std.proofs.lemmas.List.{set_at, length-append, length-map, map-append}
use Rattle.std.proofs.lemmas.Bool.{cases_eq, both_ways, and_parts, and_from, eq-eqb, eqb-true, false_from_ne_true}
use Rattle.number_sets.specs.Sets.{has_number}
use Rattle.trail_solver.specs.Pairs.{IsPair, has_pair}
use Rattle.trail_solver.specs.Candidates.{CandidatesValue}
use Rattle.trail_solver.proofs.SetPairs.{has_pair-pairs_of}
use Rattle.line_steps.specs.Left.{IsFewer, without}
use Rattle.line_steps.specs.Grades.{has_reason}
use Rattle.named_steps.specs.Chains.{Shows}
use Rattle.line_steps.specs.Chains.{StepValue, IsStep, AreOfGrade, left_by}
use Rattle.line_steps.proofs.Chains.{IsAntitone, chain_less, left_size, left_append, chain_split, chain_joined}
use Rattle.line_steps.proofs.Takes.{was_left, still_left, without_fewer}
use Rattle.named_steps.proofs.Shown.{shown_less}
use Rattle.line_steps.specs.declared.reason.Reason.{Reason}
use Rattle.line_steps.specs.declared.grade.Grade.{Grade}
use Rattle.named_steps.specs.declared.goal.Goal.{Goal}
use Rattle.step_chains.specs.declared.chain.Step.{Step}
use Rattle.step_chains.specs.ChainValues.{step_value, steps_of, StrikesLess}
use Rattle.step_chains.specs.Inner.Replays.{AreTimely}
use Rattle.step_chains.specs.Inner.Tight.{IsTightFrom, IsNeededFrom, IsNeededBelow, IsNeededAt, IsStepWithout, IsLeftOut, IsNarrowedBelow, IsDoneFrom}
use Rattle.step_chains.proofs.Live.{timely_more}
use Rattle.step_chains.proofs.Tight.{fronts_part, parted, remove_at, shows_with, steps_removed, tight_without}
use Rattle.line_steps.specs.Reasons.{Striking}

-- the pair is one of the size's, and the reason strikes it
abbrev IsPairStruck : Striking → CandidatesValue → Reason → ℕ → ℕ → Type 0
IsPairStruck Struck c reason cell v = IsPair c.size cell v × Struck c reason cell v

-- each pair of the first step is one of the second's
abbrev pub Among : StepValue → StepValue → Type 0
Among less more = (cell value : ℕ) → has_pair less.strikes cell value ≡ true → has_pair more.strikes cell value ≡ true

-- ---- a step that strikes more

-- a step that strikes more leaves fewer
more_fewer : (c : CandidatesValue) (less more : StepValue) → Among less more → IsFewer (without c less.strikes) (without c more.strikes)
more_fewer c less more among = λ cell value left. grind (arith, was_left, still_left, false_from_ne_true, both_ways)

with_more : (grade : Grade) (front rest : List StepValue) (less more : StepValue) → has_reason grade more.reason ≡ true
    → AreOfGrade grade (front ++ less ∷ rest) → AreOfGrade grade (front ++ more ∷ rest)
with_more grade [] rest less more has part = (has, part.1)
with_more grade (first ∷ front) rest less more has part = (part.0, with_more grade front rest less more has part.1)

allowed_at : (grade : Grade) (front back : List StepValue) (step : StepValue) → AreOfGrade grade (front ++ step ∷ back) → has_reason grade step.reason ≡ true
allowed_at grade [] back step h = h.0
allowed_at grade (first ∷ front) back step h = allowed_at grade front back step h.1

allowed_without : (grade : Grade) (front back : List StepValue) (step : StepValue) → AreOfGrade grade (front ++ step ∷ back) → AreOfGrade grade (front ++ back)
allowed_without grade [] back step h = h.1
allowed_without grade (first ∷ front) back step h = (h.0, allowed_without grade front back step h.1)

allowed_with : (grade : Grade) (front back : List StepValue) (step : StepValue) → has_reason grade step.reason ≡ true → AreOfGrade grade (front ++ back)
    → AreOfGrade grade (front ++ step ∷ back)
allowed_with grade [] back step has h = (has, h)
allowed_with grade (first ∷ front) back step has h = (h.0, allowed_with grade front back step has h.1)

-- a chain that shows the goal shows it with a step in place of one that strikes less, if it is a step there
shows_at : (Struck : Striking) → IsAntitone Struck → (grade : Grade) (c : CandidatesValue)
    (front rest : List StepValue) (less more : StepValue) (goal : Goal) → Among less more → IsStep Struck (left_by c front) more
    → has_reason grade more.reason ≡ true → Shows Struck grade c (front ++ less ∷ rest) goal → Shows Struck grade c (front ++ more ∷ rest) goal
shows_at Struck antitone grade c front rest less more goal among at has part =
    let end = left_by c front in
    let both = chain_split Struck c front (less ∷ rest) part.chain in
    let after = chain_less Struck antitone (without end less.strikes) (without end more.strikes) rest refl (more_fewer end less more among) both.1.1 in
    grind (arith, chain_joined, with_more, shown_less, left_size, left_append)

-- a step of a chain that shows the goal can take the place of one that strikes less, with other later steps
pub shows_more : (Struck : Striking) → IsAntitone Struck → (grade : Grade) (c : CandidatesValue)
    (front back rest : List StepValue) (less more : StepValue) (goal : Goal) → Among less more → Shows Struck grade c (front ++ more ∷ back) goal
    → Shows Struck grade c (front ++ less ∷ rest) goal → Shows Struck grade c (front ++ more ∷ rest) goal
shows_more Struck antitone grade c front back rest less more goal among whole part =
    shows_at Struck antitone grade c front rest less more goal among (chain_split Struck c front (more ∷ back) whole.chain).1.0
    (allowed_at grade front back more whole.allowed) part

-- a step that strikes less keeps a chain timely
timely_less : (c : CandidatesValue) (front back : List StepValue) (less more : StepValue) → Among less more
    → AreTimely c (front ++ more ∷ back) → AreTimely c (front ++ less ∷ back)
timely_less c [] back less more among h = grind (arith, timely_more, more_fewer)
timely_less c (first ∷ front) back less more among h =
    (h.0, timely_less (without c first.strikes) front back less more among h.1)

-- ---- later steps, where a step strikes less

-- a later step of the chain with the step that strikes more: the chain up to there and the tail show the goal
record Later (Struck : Striking) (grade : Grade) (c : CandidatesValue) (front back rest tail : List StepValue)
    (more step : StepValue) (goal : Goal) : Type 0 where
  mid : List StepValue
  is : front ++ more ∷ back ≡ (front ++ more ∷ mid) ++ step ∷ rest
  far : length front < length (front ++ more ∷ mid)
  shows : Shows Struck grade c ((front ++ more ∷ mid) ++ tail) goal

later : (Struck : Striking) → IsAntitone Struck → (grade : Grade) (c : CandidatesValue)
    (front back long rest tail : List StepValue) (less more step : StepValue) (goal : Goal) → Among less more
    → Shows Struck grade c (front ++ more ∷ back) goal → front ++ less ∷ back ≡ long ++ step ∷ rest → length front < length long
    → Shows Struck grade c (long ++ tail) goal → Later Struck grade c front back rest tail more step goal
later Struck antitone grade c front back long rest tail less more step goal among whole is behind shows =
    let short = front ++ less ∷ [] in
    let size : length short ≡ length front + 1 = length-append front (less ∷ []) in
    let parts = fronts_part short back long (step ∷ rest) (append_assoc front (less ∷ []) back ∙ is) (omega (arith, size, behind)) in
    let mid = parts.0 in
    let front_is : long ≡ front ++ less ∷ mid = parts.1 ∙ append_assoc front (less ∷ []) mid in
    let part : Shows Struck grade c (front ++ less ∷ (mid ++ tail)) goal =
    subst (λ xs. Shows Struck grade c xs goal) (ap (λ xs. xs ++ tail) front_is ∙ append_assoc front (less ∷ mid) tail) shows in
    record {
      mid = mid;
      is = ap (λ xs. front ++ more ∷ xs) parts.2 ∙ sym (append_assoc front (more ∷ mid) (step ∷ rest));
      far = omega (arith, length-append front (more ∷ mid));
      shows = subst (λ xs. Shows Struck grade c xs goal) (sym (append_assoc front (more ∷ mid) tail))
          (shows_more Struck antitone grade c front back (mid ++ tail) less more goal among whole part);
    }

-- if no later step can be left out, or strike less, none can once an earlier step strikes less
pub tight_less : (Struck : Striking) → IsAntitone Struck → (grade : Grade) (c : CandidatesValue)
    (front back : List StepValue) (less more : StepValue) (goal : Goal) → Among less more → Shows Struck grade c (front ++ more ∷ back) goal
    → IsTightFrom (length front + 1) Struck grade c (front ++ more ∷ back) goal
    → IsTightFrom (length front + 1) Struck grade c (front ++ less ∷ back) goal
tight_less Struck antitone grade c front back less more goal among whole tight = λ long rest step is behind shows.
    let l = later Struck antitone grade c front back long rest rest less more step goal among whole is (omega (arith, behind)) shows in
    tight (front ++ more ∷ l.mid) rest step l.is (omega (arith, l.far)) l.shows

pub needed_less : (Struck : Striking) → IsAntitone Struck → (grade : Grade) (c : CandidatesValue)
    (front back : List StepValue) (less more : StepValue) (goal : Goal) → Among less more → Shows Struck grade c (front ++ more ∷ back) goal
    → IsNeededFrom (length front + 1) Struck grade c (front ++ more ∷ back) goal
    → IsNeededFrom (length front + 1) Struck grade c (front ++ less ∷ back) goal
needed_less Struck antitone grade c front back less more goal among whole needed = λ long rest step spared cell v is behind by shows.
    let l = later Struck antitone grade c front back long rest (spared ∷ rest) less more step goal among whole is (omega (arith, behind)) shows in
    needed (front ++ more ∷ l.mid) rest step spared cell v l.is (omega (arith, l.far)) by l.shows

-- ---- one step with one value less

-- the pairs of a step are its values in its square
pub pairs_where : (s : Step) (cell v : ℕ) → s.values < 2 ^ 16
    → (has_pair (step_value s).strikes cell v ≡ true) ↔ ((cell ≡ s.cell) × (has_number s.values v ≡ true))
pairs_where s cell v low = grind (arith, and_parts, has_pair-pairs_of, eqb-true, and_from, eq-eqb)

-- a step with a value less strikes some of its pairs
pub lacks_among : (s t : Step) (value : ℕ) → s.values < 2 ^ 16 → t.values < 2 ^ 16 → IsStepWithout value s t → Among (step_value t) (step_value s)
lacks_among s t value low small lacks = λ cell v has. grind (arith, pairs_where)

-- a step that strikes less and lacks a value strikes some of the pairs of the step without that value
less_among : (s t : Step) (at value : ℕ) (less : StepValue) → s.values < 2 ^ 16 → t.values < 2 ^ 16 → IsStepWithout value s t
    → StrikesLess at value less (step_value s) → Among less (step_value t)
less_among s t at value less low small lacks by = λ cell v has. grind (arith, pairs_where, both_ways)

-- if the step without a value doesn't show the goal, no step that strikes less and lacks the value does
pub needed_here : (Struck : Striking) → IsAntitone Struck → (grade : Grade) (c : CandidatesValue)
    (front back : List StepValue) (s t : Step) (value : ℕ) (less : StepValue) (goal : Goal) → s.values < 2 ^ 16 → t.values < 2 ^ 16 → IsStepWithout value s t
    → Shows Struck grade c (front ++ step_value s ∷ back) goal → (Shows Struck grade c (front ++ step_value t ∷ back) goal → ⊥)
    → (at : ℕ) → StrikesLess at value less (step_value s) → Shows Struck grade c (front ++ less ∷ back) goal → ⊥
needed_here Struck antitone grade c front back s t value less goal low small lacks whole none cell by shows =
    let at = (chain_split Struck c front (step_value s ∷ back) whole.chain).1.0 in
    let reason : (step_value t).reason ≡ s.reason = lacks.reason in
    none (shows_at Struck antitone grade c front back less (step_value t) goal (less_among s t cell value less low small lacks by)
    (λ cell v has. subst (λ (r : Reason). IsPairStruck Struck (left_by c front) r cell v) (sym reason) (at cell v (lacks_among s t value low small lacks cell v has)))
    (subst (λ (r : Reason). has_reason grade r ≡ true) (sym reason) (allowed_at grade front back (step_value s) whole.allowed)) shows)

-- ---- leaving out one number

-- if steps are a front, a step and a back, so are their values
listed : (steps front back : List Step) (s : Step) → steps ≡ front ++ s ∷ back → steps_of steps ≡ steps_of front ++ step_value s ∷ steps_of back
listed steps front back s is = ap steps_of is ∙ map-append step_value front (s ∷ back)

-- each place of the steps has a front, the step there and a back
pub parts_at : (steps : List Step) (place : ℕ) (s : Step) → place < length steps → s ≡ slice_index_or steps place s
    → (front : List Step) × (back : List Step) × (steps ≡ front ++ s ∷ back) × (length front ≡ place)
parts_at steps place s low is =
    let at = parted steps place low in
    grind (arith, get_or-append_seam)

-- if the step at a place doesn't strike the number, the steps stay as they are
pub left_none : (Struck : Striking) (grade : Grade) (c : CandidatesValue) (place value : ℕ) (steps : List Step) (s : Step)
    (goal : Goal) → place < length steps → s ≡ slice_index_or steps place s → s.values < 2 ^ 16 → has_number s.values value ≡ false
    → IsLeftOut Struck grade c place value steps steps goal
left_none Struck grade c place value steps s goal low is small none = grind (arith, parts_at, both_ways, pairs_where)

-- the number is left out if the step without it is put in the step's place
pub left_less : (Struck : Striking) (grade : Grade) (c : CandidatesValue) (place value : ℕ) (steps : List Step)
    (s t : Step) (goal : Goal) → place < length steps → s ≡ slice_index_or steps place s → s.values < 2 ^ 16 → t.values < 2 ^ 16 → IsStepWithout value s t
    → IsLeftOut Struck grade c place value steps (slice_set steps place t) goal
left_less Struck grade c place value steps s t goal low is small few lacks = grind (arith, parts_at, set_at, lacks_among, pairs_where)

-- a step that is put back in its place makes the steps what they were
pub set_back : (steps : List Step) (place : ℕ) (s t : Step) → place < length steps → s ≡ slice_index_or steps place s
    → slice_set (slice_set steps place t) place s ≡ steps
set_back steps place s t low is = grind (arith, parts_at, set_at)

-- if the goal isn't shown without the number, the step is put back, and needs it
pub left_with : (Struck : Striking) → IsAntitone Struck → (grade : Grade) (c : CandidatesValue) (place value : ℕ)
    (steps set : List Step) (s t : Step) (goal : Goal) → place < length steps → s ≡ slice_index_or steps place s → s.values < 2 ^ 16 → t.values < 2 ^ 16
    → IsStepWithout value s t → set ≡ slice_set steps place t → Shows Struck grade c (steps_of steps) goal
    → (Shows Struck grade c (steps_of set) goal → ⊥)
    → IsLeftOut Struck grade c place value steps (slice_set (slice_set steps place t) place s) goal
left_with Struck antitone grade c place value steps set s t goal low is small few lacks set_is shows none =
    let (front, back, parts, at) = parts_at steps place s low is in
    let F = steps_of front in
    let B = steps_of back in
    let other : set ≡ front ++ t ∷ back = set_is ∙ ap (λ (xs : List Step). slice_set xs place t) parts ∙ set_at front s back t place at in
    record {
      front = front;
      back = back;
      was = s;
      now = s;
      at = at;
      old_is = parts;
      new_is = set_back steps place s t low is ∙ parts;
      reason = refl;
      among = λ k v has. has;
      needed = λ less cell by shown. needed_here Struck antitone grade c F B s t value less goal small few lacks
          (subst (λ xs. Shows Struck grade c xs goal) (listed steps front back s parts) shows)
          (λ there. none (subst (λ xs. Shows Struck grade c xs goal) (sym (listed set front back t other)) there)) cell by shown;
    }

-- ---- one number after another

cons_parts : {X : Type 0} (x y : X) (xs ys : List X) → x ∷ xs ≡ y ∷ ys → (x ≡ y) × (xs ≡ ys)
cons_parts x y xs ys same = (cc, cc)

-- lists that are the same have the same parts before and after a place
pub same_parts : {X : Type 0} (xs ys us bs : List X) (x y : X) → xs ++ x ∷ us ≡ ys ++ y ∷ bs → length xs ≡ length ys
    → (xs ≡ ys) × (x ≡ y) × (us ≡ bs)
same_parts [] [] us bs x y same size = let (head, tail) = cons_parts x y us bs same in (refl, head, tail)
same_parts [] (k ∷ ys) us bs x y same size = absurd (omega (arith, size))
same_parts (h ∷ xs) [] us bs x y same size = absurd (omega (arith, size))
same_parts (h ∷ xs) (k ∷ ys) us bs x y same size = grind (arith, cons_parts, (same_parts xs ys us bs x y))

-- once a number is left out or needed, the step needs each of its values up to and with this one
pub narrowed_on : (Struck : Striking) → IsAntitone Struck → (grade : Grade) (c : CandidatesValue) (place value : ℕ)
    (old new : List Step) (goal : Goal) → Shows Struck grade c (steps_of old) goal → IsLeftOut Struck grade c place value old new goal
    → IsNarrowedBelow Struck grade c place value old goal → IsNarrowedBelow Struck grade c place (value + 1) new goal
narrowed_on Struck antitone grade c place value old new goal shows o h =
    let F = steps_of o.front in
    let B = steps_of o.back in
    let was = step_value o.was in
    let now = step_value o.now in
    let old_is : steps_of old ≡ F ++ was ∷ B = listed old o.front o.back o.was o.old_is in
    let new_is : steps_of new ≡ F ++ now ∷ B = listed new o.front o.back o.now o.new_is in
    let far : length F ≡ place = length-map o.front step_value ∙ o.at in
    let whole = subst (λ xs. Shows Struck grade c xs goal) old_is shows in
    record {
      tight = subst (λ (n : ℕ). IsTightFrom (n + 1) Struck grade c (steps_of new) goal) far
          (subst (λ xs. IsTightFrom (length F + 1) Struck grade c xs goal) (sym new_is)
          (tight_less Struck antitone grade c F B now was goal o.among whole
          (grind arith)));
      needed = subst (λ (n : ℕ). IsNeededFrom (n + 1) Struck grade c (steps_of new) goal) far
          (subst (λ xs. IsNeededFrom (length F + 1) Struck grade c xs goal) (sym new_is)
          (needed_less Struck antitone grade c F B now was goal o.among whole
          (grind arith)));
      here = λ front back step less cell v is at by below shown.
          let parts = same_parts F front B back now step (sym new_is ∙ is) (far ∙ sym at) in
          let there : Shows Struck grade c (F ++ less ∷ B) goal = grind arith in
          let by_now : StrikesLess cell v less now = subst (λ x. StrikesLess cell v less x) (sym parts.1) by in
          elim (cases_eq v value) [
            | inl same ↦ o.needed less cell (subst (λ (n : ℕ). StrikesLess cell n less now) same by_now) there
            | inr other ↦ h.here F B was less cell v old_is far (grind arith) (omega (arith, other, below)) there
          ];
    }

-- steps with a number left out are timely, if they were before
pub left_out_timely : (Struck : Striking) (grade : Grade) (c : CandidatesValue) (place value : ℕ)
    (old new : List Step) (goal : Goal) → IsLeftOut Struck grade c place value old new goal
    → AreTimely c (steps_of old) → AreTimely c (steps_of new)
left_out_timely Struck grade c place value old new goal o timely = grind (arith, common_steps, listed, timely_less)

-- the values that a step strikes are numbers of the size
struck_size : (Struck : Striking) (grade : Grade) (c : CandidatesValue) (steps front back : List StepValue)
    (step : StepValue) (cell v : ℕ) (goal : Goal) → steps ≡ front ++ step ∷ back → has_pair step.strikes cell v ≡ true → Shows Struck grade c steps goal
    → (1 ≤ v) × (v ≤ c.size)
struck_size Struck grade c steps front back step cell v goal is has shows = grind (arith, chain_split, left_size)

-- a step needs each of its values below 1, since it strikes none
pub needed_none : (Struck : Striking) (grade : Grade) (c : CandidatesValue) (place : ℕ) (steps : List StepValue)
    (goal : Goal) → Shows Struck grade c steps goal → IsNeededBelow 1 place Struck grade c steps goal
needed_none Struck grade c place steps goal shows = grind (arith, struck_size)

-- a step that needs each of its values below 10 can't strike less
pub needed_all : (Struck : Striking) (grade : Grade) (c : CandidatesValue) (place most : ℕ) (steps : List StepValue)
    (goal : Goal) → c.size ≤ 9 → 10 ≤ most → Shows Struck grade c steps goal → IsNeededBelow most place Struck grade c steps goal
    → IsNeededAt place Struck grade c steps goal
needed_all Struck grade c place most steps goal small high shows h = grind (arith, struck_size)

-- ---- one step after another

-- a step that strikes nothing changes nothing
empty_fewer : (c : CandidatesValue) (step : StepValue) → ((k v : ℕ) → has_pair step.strikes k v ≡ true → ⊥) → IsFewer (without c step.strikes) c
empty_fewer c step none = λ cell value left. grind (arith, still_left, false_from_ne_true)

pub shows_empty : (Struck : Striking) → IsAntitone Struck → (grade : Grade) (c : CandidatesValue)
    (front back : List StepValue) (step : StepValue) (goal : Goal) → ((k v : ℕ) → has_pair step.strikes k v ≡ true → ⊥)
    → Shows Struck grade c (front ++ step ∷ back) goal → Shows Struck grade c (front ++ back) goal
shows_empty Struck antitone grade c front back step goal none h =
    let end = left_by c front in
    let both = chain_split Struck c front (step ∷ back) h.chain in
    let after = chain_less Struck antitone (without end step.strikes) end back refl (empty_fewer end step none) both.1.1 in
    grind (arith, chain_joined, allowed_without, shown_less, left_size, left_append)

-- a step that strikes nothing can be put in anywhere, and the goal is still shown
shows_idle : (Struck : Striking) → IsAntitone Struck → (grade : Grade) (c : CandidatesValue)
    (front back : List StepValue) (reason : Reason) (goal : Goal) → has_reason grade reason ≡ true
    → Shows Struck grade c (front ++ back) goal → Shows Struck grade c (front ++ (record { reason = reason; strikes = [] }) ∷ back) goal
shows_idle Struck antitone grade c front back reason goal has h =
    let idle : StepValue = record { reason = reason; strikes = [] } in
    let end = left_by c front in
    let both = chain_split Struck c front back h.chain in
    let after = chain_less Struck antitone end (without end []) back refl (without_fewer end []) both.1 in
    grind (arith, chain_joined, allowed_with, shown_less, left_size, left_append)

-- where a step strikes something and can't strike less, it can't be left out
pub tight_needed : (Struck : Striking) → IsAntitone Struck → (grade : Grade) (c : CandidatesValue) (place : ℕ)
    (steps front back : List Step) (s : Step) (value : ℕ) (goal : Goal) → steps ≡ front ++ s ∷ back → length front ≡ place → s.values < 2 ^ 16
    → has_number s.values value ≡ true → Shows Struck grade c (steps_of steps) goal
    → IsTightFrom (place + 1) Struck grade c (steps_of steps) goal → IsNeededAt place Struck grade c (steps_of steps) goal
    → IsTightFrom place Struck grade c (steps_of steps) goal
tight_needed Struck antitone grade c place steps front back s value goal is at low has shows tight needed = λ fs bs step same behind shown.
    let F = steps_of front in
    let B = steps_of back in
    let far : length F ≡ place = length-map front step_value ∙ at in
    let whole = listed steps front back s is in
    elim (cases_eq (length fs) place) [
      | inl here ↦
          let parts = same_parts F fs B bs (step_value s) step (sym whole ∙ same) (far ∙ sym here) in
          let allowed = allowed_at grade F B (step_value s) (subst (λ xs. AreOfGrade grade xs) whole shows.allowed) in
          needed F B (step_value s) (record { reason = s.reason; strikes = [] }) s.cell value whole far (grind (arith, pairs_where))
          (shows_idle Struck antitone grade c F B s.reason goal allowed
          (subst (λ xs. Shows Struck grade c (F ++ xs) goal) (sym parts.2) (subst (λ xs. Shows Struck grade c (xs ++ bs) goal) (sym parts.0) shown)))
      | inr other ↦ tight fs bs step same (omega (arith, behind, other)) shown
    ]

-- if neither the step at a place nor a later one can strike less, none from the place on can
pub needed_from : (Struck : Striking) (grade : Grade) (c : CandidatesValue) (place : ℕ) (steps : List StepValue)
    (goal : Goal) → IsNeededAt place Struck grade c steps goal → IsNeededFrom (place + 1) Struck grade c steps goal
    → IsNeededFrom place Struck grade c steps goal
needed_from Struck grade c place steps goal here later_ones = λ front back step less cell v is behind by shown. grind (arith, cases_eq)

-- if no step after one can strike less, none can once that one goes
pub needed_without : (Struck : Striking) → IsAntitone Struck → (grade : Grade) (c : CandidatesValue)
    (front back : List StepValue) (gone : StepValue) (goal : Goal) → Shows Struck grade c (front ++ gone ∷ back) goal
    → IsNeededFrom (length front + 1) Struck grade c (front ++ gone ∷ back) goal → IsNeededFrom (length front) Struck grade c (front ++ back) goal
needed_without Struck antitone grade c front back gone goal whole needed = λ fs bs step less cell v is behind by shown.
    let more = fronts_part front back fs (step ∷ bs) is behind in
    let mid = more.0 in
    let part : Shows Struck grade c (front ++ (mid ++ less ∷ bs)) goal =
    subst (λ xs. Shows Struck grade c xs goal) (ap (λ xs. xs ++ less ∷ bs) more.1 ∙ append_assoc front mid (less ∷ bs)) shown in
    needed (front ++ gone ∷ mid) bs step less cell v
    (ap (λ xs. front ++ gone ∷ xs) more.2 ∙ sym (append_assoc front (gone ∷ mid) (step ∷ bs)))
    (omega (arith, length-append front (gone ∷ mid))) by
    (subst (λ xs. Shows Struck grade c xs goal) (sym (append_assoc front (gone ∷ mid) (less ∷ bs)))
    (shows_with Struck antitone grade c front back (mid ++ less ∷ bs) gone goal whole part))

-- ---- the loop over the steps

-- once a step that strikes nothing goes, the steps from its place on are done
pub narrowed_goes : (Struck : Striking) → IsAntitone Struck → (grade : Grade) (c : CandidatesValue) (place : ℕ)
    (steps front back rest : List Step) (s : Step) (goal : Goal) → steps ≡ front ++ s ∷ back → length front ≡ place → s.values < 2 ^ 16
    → ((n : ℕ) → has_number s.values n ≡ false) → Shows Struck grade c (steps_of steps) goal
    → IsTightFrom (place + 1) Struck grade c (steps_of steps) goal → IsNeededFrom (place + 1) Struck grade c (steps_of steps) goal
    → rest ≡ remove steps place → IsDoneFrom Struck grade c place rest goal
narrowed_goes Struck antitone grade c place steps front back rest s goal is at low none shows tight needed gone =
    let F = steps_of front in
    let B = steps_of back in
    let far : length F ≡ place = length-map front step_value ∙ at in
    let whole = listed steps front back s is in
    let rest_is : rest ≡ front ++ back = gone ∙ (λ i. remove (is i) (sym at i)) ∙ remove_at front back s in
    let rest_steps : steps_of rest ≡ F ++ B = ap steps_of rest_is ∙ map-append step_value front back in
    let inside : place < length (steps_of steps) = omega (arith, far, ap length whole, length-append F (step_value s ∷ B)) in
    record {
      inside = omega (arith, at, ap length rest_is, length-append front back);
      shows = subst (λ xs. Shows Struck grade c xs goal) (sym rest_steps)
          (shows_empty Struck antitone grade c F B (step_value s) goal
          (λ k v has. both_ways (has_number s.values v) (none v) ((pairs_where s k v low).0 has).1)
          (subst (λ xs. Shows Struck grade c xs goal) whole shows));
      tight = grind (arith, steps_removed, tight_without);
      needed = subst (λ (n : ℕ). IsNeededFrom n Struck grade c (steps_of rest) goal) far
          (subst (λ xs. IsNeededFrom (length F) Struck grade c xs goal) (sym rest_steps)
          (needed_without Struck antitone grade c F B (step_value s) goal (subst (λ xs. Shows Struck grade c xs goal) whole shows)
          (grind arith)));
    }

-- if a step strikes something and can't strike less, the steps from its place on are done with it
pub narrowed_stays : (Struck : Striking) → IsAntitone Struck → (grade : Grade) (c : CandidatesValue) (place : ℕ)
    (steps front back : List Step) (s : Step) (value : ℕ) (goal : Goal) → steps ≡ front ++ s ∷ back → length front ≡ place → s.values < 2 ^ 16
    → has_number s.values value ≡ true → Shows Struck grade c (steps_of steps) goal
    → IsTightFrom (place + 1) Struck grade c (steps_of steps) goal → IsNeededFrom (place + 1) Struck grade c (steps_of steps) goal
    → IsNeededAt place Struck grade c (steps_of steps) goal → IsDoneFrom Struck grade c place steps goal
narrowed_stays Struck antitone grade c place steps front back s value goal is at low has shows tight needed here = record {
  inside = omega (arith, at, ap length is, length-append front (s ∷ back));
  shows = shows;
  tight = tight_needed Struck antitone grade c place steps front back s value goal is at low has shows tight here;
  needed = needed_from Struck grade c place (steps_of steps) goal here needed;
}
