use Rattle.std.proofs.Common.{ℕ, ◌∷◌, [], codes, Some, refl, ap, ◌∙◌, subst}
use Rattle.serde_json.specs.Data.{boolean}
use Rattle.json_replies.specs.Counts.{count_data}
use Rattle.json_replies.specs.Steps.{x_data, y_data}
use Rattle.json_replies.specs.Inner.WrittenData.{MembersFollow}
use Rattle.json_replies.proofs.WrittenData.{object_follows, more_members, member_is}
use Rattle.json_replies.proofs.clue_lists.write_clue.Goals as goal

pub returns : goal.returns
returns c =
    let place = c.args.place in
    let at = subst (λ (w : ℕ). MembersFollow ((codes "x", x_data w (Some place)) ∷ (codes "y", y_data w (Some place)) ∷ [])
    c.write_error_at.new.writer c.write_place_at.new.writer) c.size.ensures.value c.in_ok-write_place_at.ensures in
    object_follows _ refl c.in_ok-begin_object.ensures
    (more_members (member_is (ap count_data (c.from.ensures ∙ c.clue.ensures.value)) c.in_ok-write_number_at.ensures)
    (more_members (member_is (ap boolean c.done.ensures) c.in_ok-write_flag_at.ensures)
    (more_members c.in_ok-write_error_at.ensures at)))
    c.in_ok-end_object.ensures
