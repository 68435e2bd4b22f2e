-- Chains as they are told: which steps are one, what is told of each, and what holds of it.
use Rattle.std.specs.Prelude.{◌≡◌, ◌↔◌, ◌<◌, ◌≤◌, ◌+◌, ◌*◌, ◌^◌, ℕ, true, false, List, [], ◌∷◌, ◌++◌, length, All, map, slice_index, Option, Some, None, IfSome}
use Rattle.number_sets.specs.Sets.{has_number}
use Rattle.line_steps.specs.Views.{view_cell}
use Rattle.trail_solver.specs.Candidates.{CandidatesValue}
use Rattle.trail_solver.specs.Pairs.{pairs_of}
use Rattle.line_steps.specs.Left.{IsLeft}
use Rattle.line_steps.specs.Chains.{StepValue, left_by}
use Rattle.line_steps.specs.declared.reason.Reason.{Reason}
use Rattle.line_steps.specs.declared.reason.Reason.TheVariants.{Given, Peer, Place, Bound, Stand, Clue, Sign, Set}
use Rattle.step_chains.specs.ChainValues.{steps_of}
use Rattle.step_chains.specs.declared.chain.Step.{Step}
use Rattle.shown_counts.specs.Shown.{is_at_clue, AreShown}
use Rattle.step_texts.specs.declared.told.KnownSquare.{KnownSquare}
use Rattle.step_texts.specs.declared.told.Strike.{Strike}
use Rattle.step_texts.specs.declared.told.ToldStep.{ToldStep}
use Rattle.step_texts.specs.Lines.{AreShort, line_texts}
use Rattle.step_texts.specs.Looks.{AreJoined, HasNoMore}
use Rattle.line_steps.specs.Reasons.{Striking}

-- the counts of towers that are told, if the reason looks from a clue, and only then: for each number that is
-- struck those that lines with it there show
abbrev pub AreToldCounts : CandidatesValue → Reason → ℕ → ℕ → Option (List ℕ) → Type 0
AreToldCounts c reason cell values None = is_at_clue c.size reason ≡ false
AreToldCounts c reason cell values (Some shows) =
    (is_at_clue c.size reason ≡ true) × AreShown c reason cell values shows

-- the strike is told of the step, by the candidates before it
pub record IsToldStrike (c : CandidatesValue) (reason : Reason) (step : Step) (strike : Strike) : Type 0 where
  pub cell : strike.cell ≡ step.cell
  pub values : strike.values ≡ step.values
  pub low : strike.values < 2 ^ 16
  pub shows : AreToldCounts c reason step.cell step.values strike.shows

-- each strike is told of the step at its place
abbrev pub AreToldStrikes : CandidatesValue → Reason → List Step → List Strike → Type 0
AreToldStrikes c reason [] [] = Unit {0}
AreToldStrikes c reason [] (strike ∷ strikes) = ⊥
AreToldStrikes c reason (step ∷ steps) [] = ⊥
AreToldStrikes c reason (step ∷ steps) (strike ∷ strikes) =
    IsToldStrike c reason step strike × AreToldStrikes c reason steps strikes

-- exactly these numbers are left of the square
pub record IsKnown (c : CandidatesValue) (square : KnownSquare) : Type 0 where
  pub inside : square.cell < c.size * c.size
  pub left : (v : ℕ) → (has_number square.numbers v ≡ true) ↔ IsLeft c square.cell v

-- exactly their numbers are left of the squares, each of which is after the one before it, and the first not before this
abbrev pub AreKnown : CandidatesValue → ℕ → List KnownSquare → Type 0
AreKnown c from [] = Unit {0}
AreKnown c from (square ∷ squares) =
    (from ≤ square.cell) × IsKnown c square × AreKnown c (square.cell + 1) squares

-- the told step is of these steps of a reason, by the candidates before them, names squares by what is left of them there,
-- and has short lines, one at least
pub record IsToldOf (c : CandidatesValue) (why : Reason) (look : List Step) (told : ToldStep) : Type 0 where
  pub reason : told.reason ≡ why
  pub strikes : AreToldStrikes c why look told.strikes.items
  pub known : AreKnown c 0 told.known.items
  pub some : 1 ≤ length told.text.items
  pub short : AreShort (line_texts told.text.items)

-- the steps are told one look after another, each by what the looks before it leave: the first step that isn't told
-- yet, with all right after it that hold where it stands
abbrev pub AreTold : Striking → ℕ → CandidatesValue → List Step → List ToldStep → Type 0
AreTold Struck w c steps [] = steps ≡ []
AreTold Struck w c steps (told ∷ later) =
    (first : Step) × (more rest : List Step) × (steps ≡ first ∷ more ++ rest) × AreJoined Struck w c first more
    × HasNoMore Struck w c first more rest
    × IsToldOf c first.reason (first ∷ more) told × AreTold Struck w (left_by c (steps_of (first ∷ more))) rest later

-- ---- what holds of the told steps of a chain

-- the clue of a reason, by the clues at the places of the edge; 0 of a reason that has none
abbrev pub reason_clue : (ℕ → ℕ) → Reason → ℕ
reason_clue clue (Given at) = 0
reason_clue clue (Peer by) = 0
reason_clue clue (Place line index other) = 0
reason_clue clue (Bound place) = clue place
reason_clue clue (Stand place) = clue place
reason_clue clue (Clue place) = clue place
reason_clue clue (Sign from to) = 0
reason_clue clue (Set line squares values) = 0

-- the square is one of those that are seen from a place at the edge
pub record IsSeenFrom (w place cell : ℕ) : Type 0 where
  pub edge : place < 4 * w
  pub index : ℕ
  pub inside : index < w
  pub here : view_cell w place index ≡ cell

-- the square is one of those that are seen from the place of the reason's clue
abbrev pub IsInView : ℕ → Reason → ℕ → Type 0
IsInView w (Given at) cell = ⊥
IsInView w (Peer by) cell = ⊥
IsInView w (Place line index other) cell = ⊥
IsInView w (Bound place) cell = IsSeenFrom w place cell
IsInView w (Stand place) cell = IsSeenFrom w place cell
IsInView w (Clue place) cell = IsSeenFrom w place cell
IsInView w (Sign from to) cell = ⊥
IsInView w (Set line squares values) cell = ⊥

-- each number of the strike is left of its square and struck there by the reason, and the clue isn't among its counts
abbrev pub IsHeldStrike : Striking → (ℕ → ℕ) → CandidatesValue → Reason → Strike → Type 0
IsHeldStrike Struck clue c reason strike = (v : ℕ) → has_number strike.values v ≡ true
    → IsLeft c strike.cell v × Struck c reason strike.cell v
    × IfSome strike.shows (λ shows. has_number (slice_index shows v) (reason_clue clue reason) ≡ false)

-- the square of each strike is after that of the one before it, and that of the first is after this one
abbrev pub AreAfter : ℕ → List Strike → Type 0
AreAfter cell [] = Unit {0}
AreAfter cell (strike ∷ strikes) = (cell < strike.cell) × AreAfter strike.cell strikes

-- the strikes are in the order of their squares, of which none comes twice
abbrev pub AreInOrder : List Strike → Type 0
AreInOrder [] = Unit {0}
AreInOrder (strike ∷ strikes) = AreAfter strike.cell strikes

-- a strike as a step of a reason
abbrev pub strike_value : Reason → Strike → StepValue
strike_value reason strike = record { reason = reason; strikes = pairs_of strike.cell strike.values }

-- what a told step strikes, square by square
abbrev pub told_values : ToldStep → List StepValue
told_values told = map (strike_value told.reason) told.strikes.items

-- each told step holds by what those before it leave
abbrev pub AreHeld : Striking → (ℕ → ℕ) → CandidatesValue → List ToldStep → Type 0
AreHeld Struck clue c [] = Unit {0}
AreHeld Struck clue c (told ∷ later) =
    AreInOrder told.strikes.items × All (IsHeldStrike Struck clue c told.reason) told.strikes.items
    × AreHeld Struck clue (left_by c (told_values told)) later
