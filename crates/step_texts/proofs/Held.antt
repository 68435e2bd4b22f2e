-- A told chain holds where it stands.
use Rattle.std.proofs.Common.{◌≡◌, ◌==◌, ◌<◌, ◌^◌, ℕ, List, [], ◌∷◌, ◌++◌, All, map, true, false, slice_index, refl, sym, ap, ap₂, ◌∙◌, subst, Option, Some, None, IfSome}
use Rattle.std.proofs.lemmas.Bool.{false_from_ne_true, and_from, eq-eqb}
use Rattle.std.proofs.lemmas.List.Elements.{All-nil, All-cons, All-head, All-tail, All-weaker}
use Rattle.number_sets.specs.Sets.{has_number}
use Rattle.trail_solver.specs.Pairs.{has_pair, pairs_of}
use Rattle.trail_solver.proofs.SetPairs.{has_pair-pairs_of}
use Rattle.trail_solver.specs.Candidates.{CandidatesValue}
use Rattle.line_steps.specs.Left.{IsLeft, without}
use Rattle.line_steps.specs.Chains.{StepValue, IsStep, IsChain, left_by}
use Rattle.line_steps.proofs.Chains.{left_size}
use Rattle.line_steps.specs.declared.reason.Reason.{Reason}
use Rattle.step_chains.specs.declared.chain.Step.{Step}
use Rattle.step_chains.specs.ChainValues.{step_value, steps_of}
use Rattle.shown_counts.specs.Shown.{IsShownBy}
use Rattle.step_texts.specs.declared.told.Strike.{Strike}
use Rattle.step_texts.specs.declared.told.ToldStep.{ToldStep}
use Rattle.step_texts.specs.Looks.{HoldsAt, AreRising}
use Rattle.step_texts.specs.Told.{AreToldCounts, IsToldStrike, AreToldStrikes, AreTold, reason_clue, IsHeldStrike, AreAfter, AreInOrder, strike_value, told_values, AreHeld}
use Rattle.line_steps.specs.Reasons.{Striking}

-- a reason strikes no number with which a line can show the reason's clue
abbrev IsToldBy : Striking → (ℕ → ℕ) → ℕ → Type 0
IsToldBy Struck clue w = (c : CandidatesValue) (reason : Reason) (cell value : ℕ) → c.size ≡ w → Struck c reason cell value
    → IsShownBy c reason cell value (reason_clue clue reason) → ⊥

-- each number of the step is left of its square, and its reason strikes it there
abbrev IsHolding : Striking → CandidatesValue → Step → Type 0
IsHolding Struck c step = (v : ℕ) → has_number step.values v ≡ true → IsLeft c step.cell v × Struck c step.reason step.cell v

-- the numbers of a step of a chain are left and struck there, if all its pairs are left
step_holding : (Struck : Striking) (c : CandidatesValue) (step : Step) → step.values < 2 ^ 16 → IsStep Struck c (step_value step)
    → ((cell value : ℕ) → has_pair (step_value step).strikes cell value ≡ true → IsLeft c cell value) → IsHolding Struck c step
step_holding Struck c step low is left = λ v has.
    let listed : has_pair (step_value step).strikes step.cell v ≡ true =
    has_pair-pairs_of step.cell step.values step.cell v low ∙ and_from (step.cell == step.cell) (has_number step.values v) (eq-eqb step.cell step.cell refl) has in
    (left step.cell v listed, (is step.cell v listed).1)

-- the numbers of a step that holds by what is left are left, and its reason strikes them
at_holding : (Struck : Striking) (w : ℕ) (c : CandidatesValue) (step : Step) → HoldsAt Struck w c step → IsHolding Struck c step
at_holding Struck w c step holds = λ v has.
    let (pair, may, struck) = (holds v has).1 in
    (record { pair = pair; may = may }, struck)

-- the steps after the first ones of a chain are a chain from what these leave
chain_on : (Struck : Striking) (c : CandidatesValue) (steps rest : List Step) → IsChain Struck c (steps_of (steps ++ rest))
    → IsChain Struck (left_by c (steps_of steps)) (steps_of rest)
chain_on Struck c [] rest h = h
chain_on Struck c (step ∷ steps) rest h = chain_on Struck (without c (step_value step).strikes) steps rest h.1

-- a property of chains that says that each step strikes only pairs that those before it leave
pub record IsLive (Live : CandidatesValue → List StepValue → Type 0) : Type 0 where
  pub here : (c : CandidatesValue) (step : StepValue) (steps : List StepValue) → Live c (step ∷ steps)
      → (cell value : ℕ) → has_pair step.strikes cell value ≡ true → IsLeft c cell value
  pub on : (c : CandidatesValue) (step : StepValue) (steps : List StepValue) → Live c (step ∷ steps) → Live (without c step.strikes) steps

-- a property of a chain by which its steps strike only what is left is one of its later steps, too
live_on : (Live : CandidatesValue → List StepValue → Type 0) → IsLive Live → (c : CandidatesValue) (steps rest : List Step) → Live c (steps_of (steps ++ rest))
    → Live (left_by c (steps_of steps)) (steps_of rest)
live_on Live is c [] rest h = h
live_on Live is c (step ∷ steps) rest h =
    live_on Live is (without c (step_value step).strikes) steps rest (is.on c (step_value step) (steps_of (steps ++ rest)) h)

-- a clue that a line can't show with a value isn't among the counts that are told with it
counts_held : (c : CandidatesValue) (reason : Reason) (cell values v n : ℕ) (shows : Option (List ℕ)) → AreToldCounts c reason cell values shows
    → has_number values v ≡ true → (IsShownBy c reason cell v n → ⊥) → IfSome shows (λ shows. has_number (slice_index shows v) n ≡ false)
counts_held c reason cell values v n None told one hidden = tt
counts_held c reason cell values v n (Some shows) told one hidden =
    false_from_ne_true (has_number (slice_index shows v) n) (λ has. hidden ((told.1 v n one).0 has))

-- what is told of a step that holds, holds: its numbers are left and struck, and the counts lack the clue
strike_held : (Struck : Striking) (clue : ℕ → ℕ) (w : ℕ) → IsToldBy Struck clue w → (c : CandidatesValue) (reason : Reason)
    (step : Step) (strike : Strike) → c.size ≡ w → step.reason ≡ reason → IsHolding Struck c step → IsToldStrike c reason step strike
    → IsHeldStrike Struck clue c reason strike
strike_held Struck clue w law c reason step strike size same holds told = λ v has.
    let one : has_number step.values v ≡ true = ap (λ (set : ℕ). has_number set v) (sym told.values) ∙ has in
    let here = holds v one in
    let by : Struck c reason step.cell v = subst (λ r. Struck c r step.cell v) same here.1 in (
      subst (λ n. IsLeft c n v) (sym told.cell) here.0,
      subst (λ n. Struck c reason n v) (sym told.cell) by,
      counts_held c reason step.cell step.values v (reason_clue clue reason) strike.shows told.shows one (law c reason step.cell v size by),
    )

-- each strike that is told of steps that hold, holds
strikes_held : (Struck : Striking) (clue : ℕ → ℕ) (w : ℕ) → IsToldBy Struck clue w → (c : CandidatesValue) (reason : Reason)
    (steps : List Step) (strikes : List Strike) → c.size ≡ w → All (λ step. step.reason ≡ reason) steps → All (λ step. IsHolding Struck c step) steps
    → AreToldStrikes c reason steps strikes → All (IsHeldStrike Struck clue c reason) strikes
strikes_held Struck clue w law c reason [] [] size same holds told = All-nil (IsHeldStrike Struck clue c reason)
strikes_held Struck clue w law c reason [] (strike ∷ strikes) size same holds told = absurd told
strikes_held Struck clue w law c reason (step ∷ steps) [] size same holds told = absurd told
strikes_held Struck clue w law c reason (step ∷ steps) (strike ∷ strikes) size same holds told =
    let R : Step → Type 0 = λ s. s.reason ≡ reason in
    let H : Step → Type 0 = λ s. IsHolding Struck c s in
    All-cons (IsHeldStrike Struck clue c reason) strike strikes
    (strike_held Struck clue w law c reason step strike size (All-head R step steps same) (All-head H step steps holds) told.0)
    (strikes_held Struck clue w law c reason steps strikes size (All-tail R step steps same) (All-tail H step steps holds) told.1)

-- strikes that are told of steps with rising squares have rising squares
strikes_after : (c : CandidatesValue) (reason : Reason) (from to : ℕ) (steps : List Step) (strikes : List Strike) → to ≡ from → AreRising from steps
    → AreToldStrikes c reason steps strikes → AreAfter to strikes
strikes_after c reason from to [] [] same rising told = tt
strikes_after c reason from to [] (strike ∷ strikes) same rising told = absurd told
strikes_after c reason from to (step ∷ steps) [] same rising told = absurd told
strikes_after c reason from to (step ∷ steps) (strike ∷ strikes) same rising told = (
  subst (λ n. n < strike.cell) (sym same) (subst (λ n. from < n) (sym told.0.cell) rising.0),
  strikes_after c reason step.cell strike.cell steps strikes told.0.cell rising.1 told.1,
)

-- the step of a reason that strikes these pairs
abbrev made : Reason → List (ℕ × ℕ) → StepValue
made reason strikes = record { reason = reason; strikes = strikes }

-- strikes that are told of steps of one reason are these steps, as values
values_told : (c : CandidatesValue) (reason why : Reason) (steps : List Step) (strikes : List Strike) → why ≡ reason → All (λ step. step.reason ≡ reason) steps
    → AreToldStrikes c reason steps strikes
    → map (strike_value why) strikes ≡ steps_of steps
values_told c reason why [] [] is same told = refl
values_told c reason why [] (strike ∷ strikes) is same told = absurd told
values_told c reason why (step ∷ steps) [] is same told = absurd told
values_told c reason why (step ∷ steps) (strike ∷ strikes) is same told =
    let R : Step → Type 0 = λ s. s.reason ≡ reason in
    let mine : why ≡ step.reason = is ∙ sym (All-head R step steps same) in
    let pairs : pairs_of strike.cell strike.values ≡ pairs_of step.cell step.values = ap₂ pairs_of told.0.cell told.0.values in
    let here : strike_value why strike ≡ step_value step = ap₂ made mine pairs in
    ap₂ (λ (s : StepValue) (ss : List StepValue). s ∷ ss) here (values_told c reason why steps strikes is (All-tail R step steps same) told.1)

-- the values of the first step of which strikes are told are below 2 ^ 16
first_low : (c : CandidatesValue) (reason : Reason) (first : Step) (more : List Step) (strikes : List Strike) → AreToldStrikes c reason (first ∷ more) strikes
    → first.values < 2 ^ 16
first_low c reason first more [] told = absurd told
first_low c reason first more (strike ∷ strikes) told = subst (λ n. n < 2 ^ 16) told.0.values told.0.low

-- strikes that are told of steps with rising squares are in the order of their squares
in_order : (c : CandidatesValue) (reason : Reason) (first : Step) (more : List Step) (strikes : List Strike) → AreRising first.cell more
    → AreToldStrikes c reason (first ∷ more) strikes → AreInOrder strikes
in_order c reason first more [] rising told = absurd told
in_order c reason first more (strike ∷ strikes) rising told = strikes_after c reason first.cell strike.cell more strikes told.0.cell rising told.1

-- all that is told of a chain holds where it stands, where each step strikes only what those before it leave
pub all_held : (Struck : Striking) (clue : ℕ → ℕ) (w : ℕ) → IsToldBy Struck clue w
    → (Live : CandidatesValue → List StepValue → Type 0) → IsLive Live → (c : CandidatesValue) (steps : List Step) (told : List ToldStep) → c.size ≡ w
    → IsChain Struck c (steps_of steps) → Live c (steps_of steps) → AreTold Struck w c steps told → AreHeld Struck clue c told
all_held Struck clue w law Live is c steps [] size chain live are = tt
all_held Struck clue w law Live is c steps (look ∷ later) size chain live are =
    let (first, more, rest, split, joined, ends, of, next) = are in
    let chained : IsChain Struck c (steps_of (first ∷ more ++ rest)) = subst (λ ss. IsChain Struck c (steps_of ss)) split chain in
    let lives : Live c (steps_of (first ∷ more ++ rest)) = subst (λ ss. Live c (steps_of ss)) split live in
    let R : Step → Type 0 = λ s. s.reason ≡ first.reason in
    let H : Step → Type 0 = λ s. IsHolding Struck c s in
    let others : All H more = All-weaker (λ (s : Step). HoldsAt Struck w c s) H (λ s at. at_holding Struck w c s at) more joined.hold in
    let mine = first ∷ more in
    let same : All R mine = All-cons R first more refl joined.one in
    let low : first.values < 2 ^ 16 = first_low c first.reason first more look.strikes.items of.strikes in
    let one : H first = step_holding Struck c first low chained.0 (is.here c (step_value first) (steps_of (more ++ rest)) lives) in
    let holds : All H mine = All-cons H first more one others in
    let left : told_values look ≡ steps_of mine = values_told c first.reason look.reason mine look.strikes.items of.reason same of.strikes in
    let onward : CandidatesValue = left_by c (steps_of mine) in (
      in_order c first.reason first more look.strikes.items joined.rising of.strikes,
      subst (λ r. All (IsHeldStrike Struck clue c r) look.strikes.items) (sym of.reason)
          (strikes_held Struck clue w law c first.reason mine look.strikes.items size same holds of.strikes),
      subst (λ ss. AreHeld Struck clue (left_by c ss) later) (sym left)
          (all_held Struck clue w law Live is onward rest later (left_size c (steps_of mine) ∙ size) (chain_on Struck c mine rest chained)
          (live_on Live is c mine rest lives) next),
    )
