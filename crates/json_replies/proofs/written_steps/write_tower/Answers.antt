use Rattle.std.proofs.Common.{refl, ap}
use Rattle.serde_json.specs.Data.{string}
use Rattle.json_replies.specs.Counts.{count_data}
use Rattle.json_replies.proofs.WrittenData.{object_follows, more_members, member_is}
use Rattle.json_replies.proofs.written_steps.write_tower.Goals as goal

pub returns : goal.returns
returns c =
    object_follows _ refl c.in_ok-begin_object.ensures
    (more_members (member_is (ap count_data c.from.ensures) c.in_ok-write_number_at.ensures)
    (more_members (member_is (ap count_data c.from-2.ensures) c.in_ok-write_number_at-2.ensures)
    (more_members (member_is (ap string c.place_word.ensures) c.in_ok-write_word_at.ensures) c.in_ok-write_seen_at.ensures)))
    c.in_ok-end_object.ensures
