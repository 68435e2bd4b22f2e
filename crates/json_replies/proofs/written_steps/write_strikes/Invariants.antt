use Rattle.std.proofs.Common.{map, take}
use Rattle.json_replies.specs.Steps.{strike_data}
use Rattle.json_replies.specs.WrittenData.{Follow}
use Rattle.json_replies.proofs.written_steps.write_strikes.Given as goal

abbrev pub invariant-loop-strike : goal.invariant-loop-strike
invariant-loop-strike l = Follow (map strike_data (take l.strike-index l.strikes)) l.initial.writer l.writer
