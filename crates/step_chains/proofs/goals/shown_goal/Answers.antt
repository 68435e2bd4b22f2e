use Rattle.step_chains.proofs.OpenGoals.{goal_found}
use Rattle.step_chains.proofs.goals.shown_goal.Goals as goal

pub returns : goal.returns
returns c = goal_found c.args.grid.now c.args.candidates.now c.shown_on_lines.result c.in_default.ensures c.shown_on_lines.ensures
