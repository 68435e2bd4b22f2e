-- The steps of a chain, told one after another.
use Rattle.std.proofs.Common.{◌≡◌, ◌<◌, ◌+◌, ℕ, suc, List, [], ◌∷◌, ◌++◌, take, drop, length, get_or, refl, sym, ap, ◌∙◌, subst, arith, Some, append_assoc, append-nil}
use Rattle.std.specs.Prelude.{slice_get}
use Rattle.std.proofs.lemmas.List.{take-append-drop}
use Rattle.std.proofs.lemmas.List.Elements.{All-weaker}
use Rattle.trail_solver.specs.Candidates.{CandidatesValue}
use Rattle.line_steps.specs.Left.{IsLeft, IsFewer, AreAlike, without}
use Rattle.line_steps.specs.Chains.{StepValue, left_by}
use Rattle.line_steps.proofs.Chains.{IsAntitone, fewer_without, left_size}
use Rattle.line_steps.specs.declared.reason.Reason.{Reason}
use Rattle.step_chains.specs.declared.chain.Step.{Step}
use Rattle.step_chains.specs.ChainValues.{steps_of}
use Rattle.step_texts.specs.declared.told.Strike.{Strike}
use Rattle.step_texts.specs.declared.told.ToldStep.{ToldStep}
use Rattle.step_texts.specs.Looks.{HoldsAt, AreJoined, HasNoMore}
use Rattle.step_texts.specs.Told.{IsToldStrike, AreToldStrikes, IsToldOf, AreTold}
use Rattle.step_texts.proofs.JoinedSteps.{grown}
use Rattle.step_texts.proofs.ToldAlike.{told_alike}
use Rattle.line_steps.specs.Reasons.{Striking}

-- ---- the strikes of a look

-- strikes that are told of steps, and then a strike told of one more step, are told of all of them
strikes_push : (c : CandidatesValue) (reason : Reason) (steps : List Step) (strikes : List Strike) (step : Step) (strike : Strike)
    → AreToldStrikes c reason steps strikes → IsToldStrike c reason step strike → AreToldStrikes c reason (steps ++ step ∷ []) (strikes ++ strike ∷ [])
strikes_push c reason [] [] step strike are is = (is, tt)
strikes_push c reason [] (k ∷ ks) step strike are is = absurd are
strikes_push c reason (s ∷ ss) [] step strike are is = absurd are
strikes_push c reason (s ∷ ss) (k ∷ ks) step strike are is = (are.0, strikes_push c reason ss ks step strike are.1 is)

-- with the next step and its strike, each strike is still told of the step at its place
pub strikes_more : (c : CandidatesValue) (reason : Reason) (look : List Step) (at : ℕ) (strikes next : List Strike) (step : Step) (strike : Strike)
    → at < length look → step ≡ get_or look at step → next ≡ strikes ++ strike ∷ [] → AreToldStrikes c reason (take at look) strikes
    → IsToldStrike c reason step strike → AreToldStrikes c reason (take (at + 1) look) next
strikes_more c reason look at strikes next step strike inside of is are told =
    subst (λ ss. AreToldStrikes c reason ss next) (sym (grown look at step inside of))
    (subst (AreToldStrikes c reason (take at look ++ step ∷ [])) (sym is) (strikes_push c reason (take at look) strikes step strike are told))

-- ---- looks one after another

-- the same steps leave fewer of fewer candidates
pub left_less : (c d : CandidatesValue) (steps : List StepValue) → IsFewer c d → IsFewer (left_by c steps) (left_by d steps)
left_less c d [] fewer = fewer
left_less c d (step ∷ steps) fewer = left_less (without c step.strikes) (without d step.strikes) steps (fewer_without c d step.strikes fewer)

-- a step that holds by some candidates holds by others of which the same is left
holds_alike : (Struck : Striking) → IsAntitone Struck → (w : ℕ) (c d : CandidatesValue) (step : Step) → d.size ≡ c.size
    → AreAlike c d → HoldsAt Struck w d step → HoldsAt Struck w c step
holds_alike Struck less w c d step size alike h = λ v has.
    let (same, rest) = h v has in
    let (pair, may, struck) = rest in
    let left : IsLeft c step.cell v = alike.0 step.cell v (record { pair = pair; may = may }) in
    (sym size ∙ same, (left.pair, left.may, less d c step.reason step.cell v alike.1 struck))

-- steps that are told together by some candidates are so by others of which the same is left
joined_alike : (Struck : Striking) → IsAntitone Struck → (w : ℕ) (c d : CandidatesValue) (first : Step) (more : List Step)
    → d.size ≡ c.size → AreAlike c d → AreJoined Struck w d first more → AreJoined Struck w c first more
joined_alike Struck less w c d first more size alike h = record {
  one = h.one;
  hold = All-weaker (λ (s : Step). HoldsAt Struck w d s) (λ (s : Step). HoldsAt Struck w c s) (λ s at. holds_alike Struck less w c d s size alike at) more h.hold;
  rising = h.rising;
}

-- a step that can't be told with others can't be so by other candidates of which the same is left
no_more_alike : (Struck : Striking) → IsAntitone Struck → (w : ℕ) (c d : CandidatesValue) (first : Step) (more rest : List Step)
    → d.size ≡ c.size → AreAlike c d → HasNoMore Struck w d first more rest → HasNoMore Struck w c first more rest
no_more_alike Struck less w c d first more [] size alike h = tt
no_more_alike Struck less w c d first more (step ∷ rest) size alike h = λ j. h (record {
  same = j.same;
  later = j.later;
  holds = holds_alike Struck less w d c step (sym size) (alike.1, alike.0) j.holds;
})

-- whatever is told of the rest, all steps are told by the steps told so far and then these
pub record GoesOn (Struck : Striking) (w : ℕ) (start d : CandidatesValue) (steps rest : List Step) (told : List ToldStep) : Type 0 where
  pub c : CandidatesValue
  pub size : d.size ≡ c.size
  pub alike : AreAlike c d
  pub onward : (later : List ToldStep) → AreTold Struck w c rest later → AreTold Struck w start steps (told ++ later)

-- before anything is told, the rest is all steps, by candidates of which the same is left
pub none_yet : (Struck : Striking) (w : ℕ) (c d : CandidatesValue) (steps : List Step) → d.size ≡ c.size → AreAlike c d
    → GoesOn Struck w c d steps steps []
none_yet Struck w c d steps size alike = record { c = c; size = size; alike = alike; onward = λ later are. are }

-- steps that have a first one are this one and then the others
pub headed : (steps : List Step) (first : Step) → slice_get steps 0 ≡ Some first → steps ≡ first ∷ drop 1 steps
headed [] first is = absurd (cc is)
headed (step ∷ steps) first is = let same : step ≡ first = cc is in ap (λ s. s ∷ steps) same

one_suc : (n : ℕ) → n + 1 ≡ suc n
one_suc n = omega arith

-- with one look more, all steps are told by the looks so far and then whatever is told of the rest
pub one_look : (Struck : Striking) → IsAntitone Struck → (w : ℕ) (start d e : CandidatesValue) (steps rest look behind : List Step)
    (first : Step) (n : ℕ) (told next : List ToldStep) (new : ToldStep) → rest ≡ first ∷ drop 1 rest → AreJoined Struck w d first (take n (drop 1 rest))
    → HasNoMore Struck w d first (take n (drop 1 rest)) (drop n (drop 1 rest)) → IsToldOf d first.reason look new
    → look ≡ take (n + 1) rest → behind ≡ drop (n + 1) rest → (e.size ≡ d.size) × AreAlike (left_by d (steps_of look)) e
    → next ≡ told ++ new ∷ [] → GoesOn Struck w start d steps rest told → GoesOn Struck w start e steps behind next
one_look Struck less w start d e steps rest look behind first n told next new head joined ends of is after taken grown g =
    let tail = drop 1 rest in
    let more = take n tail in
    let last : behind ≡ drop n tail = after ∙ ap (drop (n + 1)) head ∙ ap (λ (k : ℕ). drop k (first ∷ tail)) (one_suc n) in
    let c = g.c in
    let looked : look ≡ first ∷ more = is ∙ ap (take (n + 1)) head ∙ ap (λ (k : ℕ). take k (first ∷ tail)) (one_suc n) in
    let mine = steps_of (first ∷ more) in
    let taken_here : AreAlike (left_by d mine) e = subst (λ (xs : List Step). AreAlike (left_by d (steps_of xs)) e) looked taken.1 in
    let told_here : IsToldOf d first.reason (first ∷ more) new = subst (λ (xs : List Step). IsToldOf d first.reason xs new) looked of in
    record {
      c = left_by c mine;
      size = taken.0 ∙ g.size ∙ sym (left_size c mine);
      alike = (
        λ cell v h. left_less c d mine g.alike.0 cell v (taken_here.0 cell v h),
        λ cell v h. taken_here.1 cell v (left_less d c mine g.alike.1 cell v h),
      );
      onward = λ later are.
          subst (λ xs. AreTold Struck w start steps xs) (sym (append_assoc told (new ∷ []) later) ∙ ap (λ xs. xs ++ later) (sym grown))
          (g.onward (new ∷ later) (
            first,
            more,
            behind,
            head ∙ ap (λ xs. first ∷ xs) (sym (take-append-drop n tail)) ∙ ap (λ xs. first ∷ more ++ xs) (sym last),
            joined_alike Struck less w c d first more g.size g.alike joined,
            no_more_alike Struck less w c d first more behind g.size g.alike (subst (λ xs. HasNoMore Struck w d first more xs) (sym last) ends),
            told_alike d c g.size (g.alike.1, g.alike.0) first.reason (first ∷ more) new told_here,
            are,
          ));
    }

-- once no step is left, the looks so far tell all steps
pub all_told : (Struck : Striking) (w : ℕ) (start d : CandidatesValue) (steps rest : List Step) (told : List ToldStep)
    → rest ≡ [] → GoesOn Struck w start d steps rest told → AreTold Struck w start steps told
all_told Struck w start d steps rest told none g = subst (λ xs. AreTold Struck w start steps xs) (append-nil told) (g.onward [] none)
