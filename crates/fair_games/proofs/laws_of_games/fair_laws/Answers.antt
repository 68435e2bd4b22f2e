use Rattle.line_steps.specs.Reasons.{StruckBy}
use Rattle.needed_items.proofs.ItemLaws.{laws_of}
use Rattle.fair_games.proofs.PruneSteps.{HasSteps, pruned_needs, steps_of}
use Rattle.fair_games.proofs.laws_of_games.fair_laws.Goals as goal
use Rattle.fair_games.proofs.laws_of_games.fair_laws.Given.{Over}

-- the laws of the puzzle's steps
steps : (g : Over) → HasSteps g.P.Rules (StruckBy g.P.Rules.puzzle g.P.Steps.own)
steps g = steps_of g.P.Rules g.P.Steps.own (laws_of g.met.P.Rules) g.met.P.Steps.own_less g.met.P.Steps.own_sound g.met.P.Steps.own_cut

pub returns : goal.returns
returns g c = record {
  needed = λ grade draw p keep i.
      pruned_needs g.P.Rules (StruckBy g.P.Rules.puzzle g.P.Steps.own) (steps g) grade draw.0 draw.1 p keep i;
}
