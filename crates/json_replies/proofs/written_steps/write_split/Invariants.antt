use Rattle.std.proofs.Common.{map, take}
use Rattle.json_replies.specs.Steps.{tower_data}
use Rattle.json_replies.specs.WrittenData.{Follow}
use Rattle.json_replies.proofs.written_steps.write_split.Given as goal

abbrev pub invariant-loop-tower : goal.invariant-loop-tower
invariant-loop-tower l = Follow (map tower_data (take l.tower-index l.towers)) l.initial.writer l.writer
