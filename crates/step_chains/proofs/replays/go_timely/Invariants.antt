use Rattle.std.proofs.Common.{◌≡◌, take}
use Rattle.trail_solver.specs.Candidates.{IsEarlier}
use Rattle.line_steps.specs.Left.{AreAlike}
use Rattle.line_steps.specs.Chains.{left_by}
use Rattle.step_chains.specs.ChainValues.{steps_of}
use Rattle.step_chains.specs.Inner.Replays.{AreTimely}
use Rattle.step_chains.proofs.replays.go_timely.Given as goal

abbrev pub invariant-loop-step : goal.invariant-loop-step
invariant-loop-step l = (l.candidates.size ≡ l.fn.candidates.size) × AreAlike (left_by l.fn.candidates (steps_of (take l.step-index l.steps))) l.candidates
    × AreTimely l.fn.candidates (steps_of (take l.step-index l.steps)) × IsEarlier l.fn.candidates l.candidates
