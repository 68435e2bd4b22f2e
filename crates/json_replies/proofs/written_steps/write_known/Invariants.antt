use Rattle.std.proofs.Common.{map, take}
use Rattle.json_replies.specs.Steps.{known_data}
use Rattle.json_replies.specs.WrittenData.{Follow}
use Rattle.json_replies.proofs.written_steps.write_known.Given as goal

abbrev pub invariant-loop-square : goal.invariant-loop-square
invariant-loop-square l = Follow (map known_data (take l.square-index l.known)) l.initial.writer l.writer
