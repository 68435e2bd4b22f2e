use Rattle.line_steps.specs.Laws.Less.{all_less}
use Rattle.line_steps.specs.Reasons.{StruckBy}
use Rattle.step_chains.proofs.ForcedLaws.{forced_by}
use Rattle.step_chains.proofs.strike_laws.forced_laws.Goals as goal

pub returns : goal.returns
returns g c = λ p.
    let puzzle = g.P.Rules.puzzle p in
    forced_by puzzle.size (StruckBy g.P.Rules.puzzle g.P.Steps.own p) (all_less puzzle (g.P.Steps.own p) (g.met.P.Steps.own_less p))
