use Rattle.std.specs.List.{range_with_len, flat_map}
use Rattle.json_replies.specs.WrittenData.{Follow}
use Rattle.json_replies.proofs.written.write_range.Given as goal

abbrev pub invariant-loop-k : goal.invariant-loop-k
invariant-loop-k g l =
    Follow (flat_map (g.E.Each.tells l.each) (range_with_len l.first l.k)) l.initial.writer l.writer
