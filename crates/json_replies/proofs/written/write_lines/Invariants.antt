use Rattle.std.proofs.Common.{map, take}
use Rattle.step_texts.specs.Lines.{line_items}
use Rattle.json_replies.specs.Texts.{text_data}
use Rattle.json_replies.specs.WrittenData.{Follow}
use Rattle.json_replies.proofs.written.write_lines.Given as goal

abbrev pub invariant-loop-line : goal.invariant-loop-line
invariant-loop-line l = Follow (map (λ line. text_data (line_items line)) (take l.line-index l.lines)) l.initial.writer l.writer
