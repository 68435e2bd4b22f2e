use Rattle.std.proofs.Common.{◌≡◌, ℕ, List, ◌∷◌, ◌++◌, map, Option, MatchOption, rules, ap, subst, sym}
use denote.Ref.{Bor}
use Rattle.json_replies.specs.Texts.{text_data, lines_of}
use Rattle.json_replies.specs.WrittenData.{Follow}
use Rattle.json_replies.proofs.ReplyLines.{one_more_line, no_more_line}
use Rattle.json_replies.proofs.WrittenData.{list_follows}
use Rattle.json_replies.proofs.object_line.write_reply.Goals as goal

pub loop-line-init : goal.loop-line-init
loop-line-init c = λ end after. after

pub loop-line-preserved : goal.loop-line-preserved
loop-line-preserved c =
    let line = c.cut.result.0.now in
    let rest = c.loop-line.rest.now in
    let all = map text_data (lines_of c.args.reply.now) in
    let parts = subst (λ (o : Option (Bor (List ℕ))). MatchOption o (rest ≡ line) (λ r. rest ≡ line ++ 10 ∷ r.now)) c.in_default-Some.is-1
    c.cut.ensures.parts in
    λ end. subst (λ (ls : List ℕ). Follow (map text_data (lines_of ls)) c.write_text.new.writer end → Follow all c.begin_array.new.self end)
    (sym (ap (λ r. r.now) c.in_default-Some.more-is))
    (one_more_line line c.in_default-Some.more.now rest all _ c.loop-line.writer _ c.cut.ensures.first parts c.in_ok-write_text.ensures
    c.loop-line.invariant end)

pub returns : goal.returns
returns c =
    list_follows c.in_ok-begin_array.ensures (no_more_line c.loop-line.rest.now _ _ _ (search rules) c.loop-line.invariant)
    c.in_ok-end_array.ensures
