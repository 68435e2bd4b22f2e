use Rattle.std.proofs.Common.{◌≡◌, List, map, take, refl, subst, arith}
use Rattle.std.proofs.lemmas.List.{take_all, take_more}
use Rattle.step_texts.specs.declared.told.ToldStep.{ToldStep}
use Rattle.json_replies.specs.Steps.{step_data}
use Rattle.json_replies.specs.WrittenData.{Follow}
use Rattle.json_replies.proofs.WrittenData.{item_follows, list_follows}
use Rattle.json_replies.proofs.written_steps.write_steps.Goals as goal

pub loop-step-preserved : goal.loop-step-preserved
loop-step-preserved g c =
    let steps = c.args.steps.now in
    let f = step_data (g.P.Rules.puzzle c.args.p.now).size (g.P.StepNames.edge_clue_of c.args.p.now) (g.P.StepNames.says_greater_of c.args.p.now) in
    item_follows f steps c.loop-step.step-index (take_more steps c.loop-step.step-index c.step-item.result (omega arith))
    c.step-item.is refl c.loop-step.invariant c.in_ok-write_step.ensures

pub returns : goal.returns
returns g c =
    let steps = c.args.steps.now in
    let f = step_data (g.P.Rules.puzzle c.args.p.now).size (g.P.StepNames.edge_clue_of c.args.p.now) (g.P.StepNames.says_greater_of c.args.p.now) in
    let all : take c.loop-step.step-index steps ≡ steps = take_all c.loop-step.step-index steps (omega arith) in
    list_follows c.in_ok-begin_array.ensures
    (subst (λ (xs : List ToldStep). Follow (map f xs) c.begin_array.new.self c.loop-step.writer) all c.loop-step.invariant)
    c.in_ok-end_array.ensures
