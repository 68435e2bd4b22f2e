use Rattle.line_steps.specs.Reasons.{StruckBy}
use Rattle.std.proofs.Common.{ℕ, List, length, refl, ap, ◌∙◌, subst}
use Rattle.serde_json.specs.Data.{Data}
use Rattle.step_chains.specs.declared.chain.Step.{Step}
use Rattle.step_texts.specs.declared.told.ToldStep.{ToldStep}
use Rattle.step_texts.specs.Groups.{AreGroups}
use Rattle.step_texts.specs.Lines.{line_texts}
use Rattle.step_texts.specs.Told.{AreTold}
use Rattle.json_replies.specs.Counts.{count_data}
use Rattle.json_replies.specs.Texts.{text_data, list_data}
use Rattle.json_replies.specs.Steps.{steps_data}
use Rattle.json_replies.specs.HintObjects.{IsHintValue, IsSaidOf, view_data, hint_data}
use Rattle.json_replies.specs.Inner.WrittenData.{MembersFollow, said_data, said_members}
use Rattle.json_replies.proofs.WrittenData.{object_follows, more_members, key_follows, member_is}
use Rattle.json_replies.proofs.hint_text.write_hint.Goals as goal

pub returns : goal.returns
returns g c =
    let w = (g.P.Rules.puzzle c.args.p.now).size in
    let letter = g.P.StepNames.grade_letter in
    let clue = g.P.StepNames.edge_clue_of c.args.p.now in
    let over = g.P.StepNames.says_greater_of c.args.p.now in
    let Struck = StruckBy g.P.Rules.puzzle g.P.Steps.own c.args.p.now in
    let hint = c.args.hint.now in
    let start = c.args.start in
    let view = c.args.view.now in
    let told = c.in_ok-told.told.items in
    let text = line_texts c.in_ok-lines.lines.items in
    let groups = c.in_ok-groups.groups.items in
    let d : Data = hint_data (said_data c.said_of-said.result) start (list_data count_data groups) (steps_data w clue over told) (list_data text_data text) (view_data view) in
    let value : IsHintValue w letter clue over Struck start view hint d = record {
      steps = told;
      told = subst (λ (steps : List Step). AreTold Struck w view steps told) c.steps_in.ensures c.in_ok-told.ensures;
      groups = groups;
      grouped = subst (λ (steps : List ToldStep). AreGroups (length steps) groups) c.as_slice.ensures.value c.in_ok-groups.ensures;
      text = text;
      lines = c.in_ok-lines.ensures;
      said = said_data c.said_of-said.result;
      says = subst (λ (v : ℕ). IsSaidOf v letter view hint (said_data c.said_of-said.result)) c.requires.size c.said_of-said.ensures;
      is = refl;
    } in
    let said = subst (λ (ns : List ℕ). MembersFollow (said_members (said_data c.said_of-said.result) start (list_data count_data ns)) c.begin_object.new.self c.write_said.new.writer)
    c.as_slice-3.ensures.value c.in_ok-write_said.ensures in
    let steps = member_is (ap (steps_data w clue over) c.as_slice-4.ensures.value) (key_follows c.in_ok-key.ensures c.in_ok-write_steps.ensures) in
    let lines = member_is (ap (λ lines. list_data text_data (line_texts lines)) c.as_slice-5.ensures.value)
    (key_follows c.in_ok-key-2.ensures c.in_ok-write_lines.ensures) in
    let unmarked = member_is c.unmarked.ensures c.in_ok-write_number_at.ensures in
    let seen = key_follows c.in_ok-key-3.ensures c.in_ok-write_candidates.ensures in
    let follow = object_follows _ refl c.in_ok-begin_object.ensures (more_members said (more_members steps (more_members lines (more_members unmarked seen)))) c.in_ok-end_object.ensures in
    (d, value, follow)
