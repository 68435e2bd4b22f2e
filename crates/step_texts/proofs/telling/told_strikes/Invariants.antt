use Rattle.std.proofs.Common.{take}
use Rattle.step_texts.specs.Told.{AreToldStrikes}
use Rattle.step_texts.proofs.telling.told_strikes.Given as goal

abbrev pub invariant-loop-step : goal.invariant-loop-step
invariant-loop-step l = AreToldStrikes l.fn.candidates l.fn.first.reason (take l.step-index l.look) l.strikes.items
