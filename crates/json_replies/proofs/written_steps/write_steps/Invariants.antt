use Rattle.std.proofs.Common.{map, take}
use Rattle.json_replies.specs.Steps.{step_data}
use Rattle.json_replies.specs.WrittenData.{Follow}
use Rattle.json_replies.proofs.written_steps.write_steps.Given as goal

abbrev pub invariant-loop-step : goal.invariant-loop-step
invariant-loop-step g l =
    Follow (map (step_data (g.P.Rules.puzzle l.p).size (g.P.StepNames.edge_clue_of l.p) (g.P.StepNames.says_greater_of l.p)) (take l.step-index l.steps))
    l.initial.writer l.writer
