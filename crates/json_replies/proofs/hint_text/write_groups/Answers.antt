use Rattle.std.proofs.Common.{◌≡◌, ℕ, List, map, take, refl, subst, arith}
use Rattle.std.proofs.lemmas.List.{take_all, take_more}
use Rattle.json_replies.specs.Counts.{count_data}
use Rattle.json_replies.specs.WrittenData.{Follow}
use Rattle.json_replies.proofs.WrittenData.{item_follows, list_follows}
use Rattle.json_replies.proofs.hint_text.write_groups.Goals as goal

pub loop-steps-preserved : goal.loop-steps-preserved
loop-steps-preserved c =
    let groups = c.args.groups.now in
    item_follows count_data groups c.loop-steps.steps-index (take_more groups c.loop-steps.steps-index 0 (omega arith)) refl refl
    c.loop-steps.invariant c.in_ok-write_number.ensures

pub returns : goal.returns
returns c =
    let groups = c.args.groups.now in
    let all : take c.loop-steps.steps-index groups ≡ groups = take_all c.loop-steps.steps-index groups (omega arith) in
    list_follows c.in_ok-begin_array.ensures
    (subst (λ (xs : List ℕ). Follow (map count_data xs) c.begin_array.new.self c.loop-steps.writer) all c.loop-steps.invariant)
    c.in_ok-end_array.ensures
