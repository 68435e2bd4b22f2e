use Rattle.std.proofs.Common.{length, map}
use Rattle.json.specs.Written.{Written}
use Rattle.json_replies.specs.Texts.{text_data, lines_of}
use Rattle.json_replies.specs.WrittenData.{Follow}
use Rattle.json_replies.proofs.object_line.write_reply.Given as goal

-- what is left of the list
abbrev pub invariant-loop-line : goal.invariant-loop-line
invariant-loop-line l =
    (end : Written) → Follow (map text_data (lines_of l.rest)) l.writer end
    → Follow (map text_data (lines_of l.reply)) l.initial.writer end

abbrev pub decreases-loop-line : goal.decreases-loop-line
decreases-loop-line l = length l.rest
