-- Steps that are told together, one more at a time.
use Rattle.std.proofs.Common.{◌≡◌, ◌<◌, ◌+◌, ℕ, List, [], ◌∷◌, ◌++◌, take, length, get_or, refl, sym, ap, ◌∙◌, subst}
use Rattle.std.proofs.lemmas.List.{take_more}
use Rattle.std.proofs.lemmas.List.Elements.{All-push}
use Rattle.trail_solver.specs.Candidates.{CandidatesValue}
use Rattle.step_chains.specs.declared.chain.Step.{Step}
use Rattle.step_texts.specs.Looks.{HoldsAt, IsJoinable, AreRising, last_cell, AreJoined}
use Rattle.line_steps.specs.Reasons.{Striking}

-- the steps up to and with the next one are those before it and then this one
pub grown : (steps : List Step) (at : ℕ) (step : Step) → at < length steps → step ≡ get_or steps at step → take (at + 1) steps ≡ take at steps ++ step ∷ []
grown steps at step inside is = subst (λ (s : Step). take (at + 1) steps ≡ take at steps ++ s ∷ []) (sym is) (take_more steps at step inside)

-- steps with rising squares and then one of a later square have rising squares
rising_more : (cell : ℕ) (steps : List Step) (step : Step) → AreRising cell steps → last_cell cell steps < step.cell → AreRising cell (steps ++ step ∷ [])
rising_more cell [] step rising after = (after, tt)
rising_more cell (s ∷ ss) step rising after = (rising.0, rising_more s.cell ss step rising.1 after)

-- of steps and then one more, this one's square is the last
last_more : (cell : ℕ) (steps : List Step) (step : Step) → last_cell cell (steps ++ step ∷ []) ≡ step.cell
last_more cell [] step = refl
last_more cell (s ∷ ss) step = last_more s.cell ss step

-- of the steps up to and with the next one, this one's square is the last
pub last_is : (cell at : ℕ) (steps : List Step) (step : Step) → at < length steps → step ≡ get_or steps at step
    → step.cell ≡ last_cell cell (take (at + 1) steps)
last_is cell at steps step inside is = sym (ap (last_cell cell) (grown steps at step inside is) ∙ last_more cell (take at steps) step)

-- steps that are told together are so with the next one, if it can be told with them
pub joined_more : (Struck : Striking) (w : ℕ) (c : CandidatesValue) (first : Step) (steps : List Step) (at : ℕ) (step : Step)
    (last : ℕ) → at < length steps → step ≡ get_or steps at step → last ≡ last_cell first.cell (take at steps)
    → AreJoined Struck w c first (take at steps) → IsJoinable Struck w c first.reason last step → AreJoined Struck w c first (take (at + 1) steps)
joined_more Struck w c first steps at step last inside is latest are new =
    subst (AreJoined Struck w c first) (sym (grown steps at step inside is)) (record {
      one = All-push (λ (s : Step). s.reason ≡ first.reason) (take at steps) step are.one new.same;
      hold = All-push (λ (s : Step). HoldsAt Struck w c s) (take at steps) step are.hold new.holds;
      rising = rising_more first.cell (take at steps) step are.rising (subst (λ n. n < step.cell) latest new.later);
    })
