use Rattle.line_steps.specs.Reasons.{StruckBy}
use Rattle.step_chains.specs.ChainValues.{AreLive}
use Rattle.step_texts.proofs.Held.{all_held}
use Rattle.step_texts.proofs.told_laws.laws.Goals as goal

pub returns : goal.returns
returns g c = record {
  hold = λ p candidates steps told size chain live are.
      all_held (StruckBy g.P.Rules.puzzle g.P.Steps.own p) (g.P.StepNames.edge_clue_of p) (g.P.Rules.puzzle p).size (g.met.P.StepNames.struck_unshown p)
      AreLive (record { here = λ d step others alive. alive.0; on = λ d step others alive. alive.1 }) candidates steps told size chain live are;
}
