-- The law of the told steps of a chain.
use Rattle.std.specs.Prelude.{◌≡◌, ℕ, List}
use Rattle.trail_solver.specs.Candidates.{CandidatesValue}
use Rattle.trail_solver.specs.Puzzles.{Puzzle}
use Rattle.line_steps.specs.Chains.{IsChain}
use Rattle.step_chains.specs.ChainValues.{AreLive, steps_of}
use Rattle.step_chains.specs.declared.chain.Step.{Step}
use Rattle.step_texts.specs.declared.told.ToldStep.{ToldStep}
use Rattle.step_texts.specs.Told.{AreTold, AreHeld}
use Rattle.line_steps.specs.Reasons.{Striking}

-- Where each step of a chain strikes only what those before it leave, all that is told of it holds where it stands.
abbrev pub ToldStepsHold : {P : Type 0} → (P → Puzzle) → (P → Striking) → (P → ℕ → ℕ) → Type 0
ToldStepsHold {P} puzzle struck_by clue =
    (p : P) (c : CandidatesValue) (steps : List Step) (told : List ToldStep) → c.size ≡ (puzzle p).size
    → IsChain (struck_by p) c (steps_of steps)
    → AreLive c (steps_of steps) → AreTold (struck_by p) (puzzle p).size c steps told
    → AreHeld (struck_by p) (clue p) c told
