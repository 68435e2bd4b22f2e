-- Chains whose steps strike only what is left, while something is left of each square.
use Rattle.std.proofs.Common.{◌*◌, ◌^◌, Bool, false, take, refl, ◌≡◌, ℕ, ◌+◌, ◌<◌, ◌≤◌, true, List, [], ◌∷◌, ◌++◌, length, sym, subst, ap, ◌∙◌, arith}
use Rattle.std.specs.List.{remove}
use Rattle.std.proofs.lemmas.List.{map-append, length-map}
use Rattle.std.proofs.lemmas.Bool.{and_parts, eqb-true}
use Rattle.number_sets.specs.Sets.{IsSubset}
use Rattle.trail_solver.specs.Pairs.{IsPrefix, has_pair}
use Rattle.trail_solver.specs.Candidates.{CandidatesValue, AreCandidates, IsSetOf, IsEarlier}
use Rattle.line_steps.specs.Left.{IsFewer, AreAlike, without}
use Rattle.line_steps.specs.Chains.{StepValue, left_by}
use Rattle.line_steps.proofs.Takes.{without_fewer}
use Rattle.line_steps.proofs.Chains.{fewer_without, left_size, left_append}
use Rattle.trail_solver.proofs.Removals.{set_below}
use Rattle.trail_solver.proofs.SetPairs.{has_pair-pairs_of}
use Rattle.line_steps.specs.declared.grade.Grade.{Grade}
use Rattle.step_chains.specs.Inner.Quiet.{IsNew}
use Rattle.step_chains.specs.Inner.Replays.{AreTimely, IsTimelyStep, Leads}
use Rattle.step_chains.specs.declared.chain.Step.{Step}
use Rattle.step_chains.specs.ChainValues.{step_value, steps_of, AreLive, EndAtOnce, HasSome, IsLiveStep}
use Rattle.std.specs.Bool.{OnTrue, MatchBool}
use Rattle.trail_solver.proofs.Earlier.{prefix-append}
use Rattle.line_steps.specs.Takes.{Takes}
use Rattle.step_chains.proofs.Followed.{taken_alike}
use Rattle.step_chains.proofs.Tight.{parted, remove_at, steps_removed}
use Rattle.line_steps.specs.Reasons.{Striking}

-- a step that is timely by fewer candidates is timely by more
pub step_more : (c d : CandidatesValue) (step : StepValue) → c.size ≡ d.size → IsFewer c d → IsTimelyStep d step
    → IsTimelyStep c step
step_more c d step size fewer (some, live) = (
  λ cell inside.
      let (value, left) = some cell (subst (λ (w : ℕ). cell < w * w) size inside) in
      (value, fewer cell value left),
  λ cell value has. fewer cell value (live cell value has),
)

-- steps that are timely by fewer candidates are timely by more
pub timely_more : (c d : CandidatesValue) (steps : List StepValue) → c.size ≡ d.size → IsFewer c d
    → AreTimely d steps → AreTimely c steps
timely_more c d [] size fewer h = tt
timely_more c d (step ∷ steps) size fewer h = (
  step_more c d step size fewer h.0,
  timely_more (without c step.strikes) (without d step.strikes) steps size (fewer_without c d step.strikes fewer) h.1,
)

-- timely steps strike only what is left, and end as soon as a square is left nothing
pub timely_parts : (c : CandidatesValue) (steps : List StepValue) → AreTimely c steps
    → AreLive c steps × EndAtOnce c steps
timely_parts c [] h = (tt, tt)
timely_parts c (step ∷ steps) h =
    let rest = timely_parts (without c step.strikes) steps h.1 in
    ((h.0.1, rest.0), (h.0.0, rest.1))

-- timely steps stay timely if one of them is left out
pub timely_without : (c : CandidatesValue) (front back : List StepValue) (step : StepValue)
    → AreTimely c (front ++ step ∷ back) → AreTimely c (front ++ back)
timely_without c [] back step h = timely_more c (without c step.strikes) back refl (without_fewer c step.strikes) h.1
timely_without c (first ∷ front) back step h = (h.0, timely_without (without c first.strikes) front back step h.1)

-- timely steps stay timely if the one at a place is removed
pub timely_removed : (c : CandidatesValue) (steps : List StepValue) (place : ℕ) → place < length steps
    → AreTimely c steps → AreTimely c (remove steps place)
timely_removed c steps place low h =
    let at = parted steps place low in
    grind (arith, remove_at, timely_without)

-- timely steps and then one that is timely by what they leave are timely
pub timely_joined : (c : CandidatesValue) (front : List StepValue) (step : StepValue) → AreTimely c front
    → IsTimelyStep (left_by c front) step → AreTimely c (front ++ step ∷ [])
timely_joined c [] step h now = (now, tt)
timely_joined c (first ∷ front) step h now = (h.0, timely_joined (without c first.strikes) front step h.1 now)

-- a list of steps stays timely if the one at a place is removed from it
pub removed_timely : (c : CandidatesValue) (steps more : List Step) (place : ℕ) → place < length steps
    → more ≡ remove steps place → AreTimely c (steps_of steps) → AreTimely c (steps_of more)
removed_timely c steps more place low is h = grind (arith, steps_removed, timely_removed, length-map)

-- a step strikes only what is left, where all its values are left of its square
live_where : (c : CandidatesValue) (s : Step) → s.values < 2 ^ 16 → AreCandidates c s.cell s.values → IsLiveStep c (step_value s)
live_where c s low left = λ cell v has. grind (arith, and_parts, has_pair-pairs_of, eqb-true)

-- if the set that is left of its square has all values of a step, the step strikes only what is left
pub live_by_set : (c : CandidatesValue) (s : Step) (set : ℕ) (b : Bool) → s.values < 2 ^ 16 → IsSetOf c s.cell set
    → MatchBool b (IsSubset s.values set) (IsSubset s.values set → ⊥) → OnTrue b (IsLiveStep c (step_value s))
live_by_set c s set false low is sub = tt
live_by_set c s set true low is sub = live_where c s low (λ v has. (is v).0 (sub v has))

-- timely steps and then a new one are timely, if something is left of each square before it
pub new_timely : (Struck : Striking) (grade : Grade) (c d : CandidatesValue) (steps more : List Step) (s : Step)
    → d.size ≤ 9 → Leads Struck grade c (steps_of steps) d → HasSome d × IsNew Struck grade d s
    → more ≡ steps ++ s ∷ [] → AreTimely c (steps_of steps) → AreTimely c (steps_of more)
new_timely Struck grade c d steps more s small before (some, new) is timely =
    let low = set_below d.size s.cell s.values small (λ v has. (new.left v has).0) in
    let listed : steps_of more ≡ steps_of steps ++ step_value s ∷ [] = ap steps_of is ∙ map-append step_value steps (s ∷ []) in
    let here = step_more (left_by c (steps_of steps)) d (step_value s) (left_size c (steps_of steps) ∙ sym before.size)
    before.alike.0 (some, live_where d s low new.left) in
    subst (AreTimely c) (sym listed) (timely_joined c (steps_of steps) (step_value s) timely here)

-- the steps up to and with the next leave what those before it leave, without its pairs
pub left_more : (c : CandidatesValue) (steps : List Step) (i : ℕ) (s : Step) → take (i + 1) steps ≡ take i steps ++ s ∷ []
    → left_by c (steps_of (take (i + 1) steps)) ≡ without (left_by c (steps_of (take i steps))) (step_value s).strikes
left_more c steps i s more = grind (arith, map-append, left_append)

-- if the next step is timely, too, the steps with it are, and leave what is left once its pairs are taken
pub timely_on : (c d e : CandidatesValue) (steps : List Step) (i : ℕ) (s : Step)
    → take (i + 1) steps ≡ take i steps ++ s ∷ [] → d.size ≡ c.size
    → AreAlike (left_by c (steps_of (take i steps))) d → AreTimely c (steps_of (take i steps))
    → IsTimelyStep d (step_value s)
    → Takes (λ cell v. has_pair (step_value s).strikes cell v ≡ true) d e
    → AreAlike (left_by c (steps_of (take (i + 1) steps))) e × AreTimely c (steps_of (take (i + 1) steps))
timely_on c d e steps i s more size alike timely here t =
    let front = steps_of (take i steps) in
    let listed : steps_of (take (i + 1) steps) ≡ front ++ step_value s ∷ [] = ap steps_of more ∙ map-append step_value (take i steps) (s ∷ []) in (
      subst (λ (x : CandidatesValue). AreAlike x e) (sym (left_more c steps i s more))
          (taken_alike (left_by c front) d e (step_value s).strikes (size ∙ sym (left_size c front)) alike t),
      subst (AreTimely c) (sym listed) (timely_joined c front (step_value s) timely
          (step_more (left_by c front) d (step_value s) (left_size c front ∙ sym size) alike.0 here)),
    )

-- pairs that are taken come on the trail after those that were taken before
pub taken_earlier : (d e : CandidatesValue) (Which : ℕ → ℕ → Type 0) → Takes Which d e → IsEarlier d e
taken_earlier d e Which t = record { size = t.size; adds = subst (IsPrefix d.trail) (sym t.trail) (prefix-append d.trail t.pairs) }

-- once the next step's pairs are taken, the same is left as the steps with it leave
pub alike_on : (c d e : CandidatesValue) (steps : List Step) (i : ℕ) (s : Step) → take (i + 1) steps ≡ take i steps ++ s ∷ [] → d.size ≡ c.size
    → AreAlike (left_by c (steps_of (take i steps))) d → Takes (λ cell v. has_pair (step_value s).strikes cell v ≡ true) d e
    → AreAlike (left_by c (steps_of (take (i + 1) steps))) e
alike_on c d e steps i s more size alike t =
    let front = steps_of (take i steps) in
    subst (λ (x : CandidatesValue). AreAlike x e) (sym (left_more c steps i s more))
    (taken_alike (left_by c front) d e (step_value s).strikes (size ∙ sym (left_size c front)) alike t)
