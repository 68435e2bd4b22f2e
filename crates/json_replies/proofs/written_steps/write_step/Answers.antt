use Rattle.std.proofs.Common.{◌≡◌, ℕ, ◌∷◌, [], codes, Option, refl, ap, ◌∙◌, subst}
use Rattle.serde_json.specs.Data.{string}
use Rattle.step_texts.specs.Lines.{line_texts}
use Rattle.json_replies.specs.Reasons.{parts_of}
use Rattle.json_replies.specs.Texts.{text_data, list_data}
use Rattle.json_replies.specs.Steps.{x_data, y_data, edge_clue_data, greater_data, known_data, less_data, strike_data, tower_data}
use Rattle.json_replies.specs.WrittenData.{Follow}
use Rattle.json_replies.specs.Inner.WrittenData.{MembersFollow}
use Rattle.json_replies.proofs.WrittenData.{object_follows, more_members, key_follows, member_is}
use Rattle.json_replies.proofs.written_steps.write_step.Goals as goal

pub returns : goal.returns
returns g c =
    let w = (g.P.Rules.puzzle c.args.p.now).size in
    let over = g.P.StepNames.says_greater_of c.args.p.now in
    let reason = c.args.step.now.reason in
    let size : c.size-size.result ≡ w = c.size-size.ensures.value in
    let edge : c.edge_of-edge.result ≡ (parts_of w over reason).edge
    = c.edge_of-edge.ensures.value over ∙ ap (λ v. (parts_of v over reason).edge) size in
    let cells = subst (λ (v : ℕ). Follow ((parts_of v over reason).cells ∷ []) c.key.new.self c.write_cells_of.new.writer) size (c.in_ok-write_cells_of.ensures over) in
    let place = λ (v : ℕ) (e : Option ℕ). MembersFollow ((codes "x", x_data v e) ∷ (codes "y", y_data v e) ∷ []) c.write_lines.new.writer
    c.write_place_at.new.writer in
    let at = subst (place w) edge (subst (λ (v : ℕ). place v c.edge_of-edge.result) size c.in_ok-write_place_at.ensures) in
    object_follows _ refl c.in_ok-begin_object.ensures
    (more_members (key_follows c.in_ok-key.ensures cells)
    (more_members (member_is (c.clue_at.ensures ∙ ap (edge_clue_data (g.P.StepNames.edge_clue_of c.args.p.now)) edge) c.in_ok-write_number_at.ensures)
    (more_members (member_is (c.greater_of.ensures ∙ ap greater_data c.ends_of-ends.ensures) c.in_ok-write_number_at-2.ensures)
    (more_members (member_is (ap (list_data known_data) c.as_slice.ensures.value) (key_follows c.in_ok-key-2.ensures c.in_ok-write_known.ensures))
    (more_members (member_is c.least_of.ensures c.in_ok-write_number_at-3.ensures)
    (more_members (member_is (c.less_of.ensures ∙ ap less_data c.ends_of-ends.ensures) c.in_ok-write_number_at-4.ensures)
    (more_members (member_is (c.line_of.ensures w over) c.in_ok-write_number_at-5.ensures)
    (more_members (member_is c.most_of.ensures c.in_ok-write_number_at-6.ensures)
    (more_members (member_is (ap string c.step_name.ensures) c.in_ok-write_word_at.ensures)
    (more_members (key_follows c.in_ok-key-3.ensures (c.in_ok-write_numbers_of.ensures w over))
    (more_members (member_is (ap string (c.word_of.ensures w over)) c.in_ok-write_word_at-2.ensures)
    (more_members (member_is (ap (list_data tower_data) c.as_slice-2.ensures.value) (key_follows c.in_ok-key-4.ensures c.in_ok-write_split.ensures))
    (more_members (member_is (ap (list_data strike_data) c.as_slice-3.ensures.value) (key_follows c.in_ok-key-5.ensures c.in_ok-write_strikes.ensures))
    (more_members (member_is (ap (λ lines. list_data text_data (line_texts lines)) c.as_slice-4.ensures.value) (key_follows c.in_ok-key-6.ensures c.in_ok-write_lines.ensures))
    at))))))))))))))
    c.in_ok-end_object.ensures
