use Rattle.std.proofs.Common.{refl, ap}
use Rattle.json_replies.specs.Counts.{count_data}
use Rattle.json_replies.proofs.WrittenData.{object_follows, more_members, key_follows, member_is}
use Rattle.json_replies.proofs.written_steps.write_known_square.Goals as goal

pub returns : goal.returns
returns c =
    object_follows _ refl c.in_ok-begin_object.ensures
    (more_members (member_is (ap count_data c.from.ensures) c.in_ok-write_number_at.ensures) (key_follows c.in_ok-key.ensures c.in_ok-write_numbers.ensures))
    c.in_ok-end_object.ensures
