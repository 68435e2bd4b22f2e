use Rattle.std.proofs.Common.{map, take}
use Rattle.json_replies.specs.Counts.{count_data}
use Rattle.json_replies.specs.WrittenData.{Follow}
use Rattle.json_replies.proofs.hint_text.write_groups.Given as goal

abbrev pub invariant-loop-steps : goal.invariant-loop-steps
invariant-loop-steps l = Follow (map count_data (take l.steps-index l.groups)) l.initial.writer l.writer
