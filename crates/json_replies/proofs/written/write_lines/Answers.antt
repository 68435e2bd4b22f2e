use Rattle.std.proofs.Common.{◌≡◌, List, map, take, subst, sym, ◌∙◌, ap, arith}
use Rattle.std.proofs.lemmas.List.{take_all, take_more}
use Rattle.serde_json.specs.Data.{Data}
use Rattle.step_texts.specs.Lines.{line_items}
use Rattle.json_replies.specs.Texts.{text_data}
use Rattle.json_replies.specs.WrittenData.{Follow}
use Rattle.json_replies.proofs.Listed.{map_twice}
use Rattle.json_replies.proofs.WrittenData.{item_follows, list_follows}
use Rattle.json_replies.proofs.written.write_lines.Goals as goal

pub loop-line-preserved : goal.loop-line-preserved
loop-line-preserved c =
    let lines = c.args.lines.now in
    item_follows (λ line. text_data (line_items line)) lines c.loop-line.line-index
    (take_more lines c.loop-line.line-index c.line-item.result (omega arith)) c.line-item.is
    (ap text_data c.as_slice.ensures.value) c.loop-line.invariant c.in_ok-write_text.ensures

pub returns : goal.returns
returns c =
    let lines = c.args.lines.now in
    let all : take c.loop-line.line-index lines ≡ lines = take_all c.loop-line.line-index lines (omega arith) in
    let each = ap (map (λ line. text_data (line_items line))) all ∙ sym (map_twice text_data line_items lines) in
    list_follows c.in_ok-begin_array.ensures (subst (λ (ds : List Data). Follow ds c.begin_array.new.self c.loop-line.writer) each c.loop-line.invariant)
    c.in_ok-end_array.ensures
