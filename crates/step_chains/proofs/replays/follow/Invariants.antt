use Rattle.line_steps.specs.Reasons.{StruckBy}
use Rattle.std.proofs.Common.{◌≡◌, None, take}
use Rattle.trail_solver.specs.Candidates.{IsEarlier}
use Rattle.line_steps.specs.Left.{AreAlike}
use Rattle.line_steps.specs.Chains.{left_by}
use Rattle.step_chains.specs.ChainValues.{steps_of}
use Rattle.step_chains.specs.Inner.Replays.{IsGradeChain}
use Rattle.step_chains.proofs.replays.follow.Given as goal

abbrev pub invariant-loop-step : goal.invariant-loop-step
invariant-loop-step g l = (l.candidates.size ≡ l.fn.candidates.size)
    × AreAlike (left_by l.fn.candidates (steps_of (take l.step-index l.steps))) l.candidates × IsEarlier l.fn.candidates l.candidates
    × (l.some ≡ None → IsGradeChain (StruckBy g.P.Rules.puzzle g.P.Steps.own l.p) l.grade l.fn.candidates (steps_of (take l.step-index l.steps)))
