use Rattle.std.proofs.Common.{refl}
use Rattle.json_replies.proofs.WrittenData.{object_follows, more_members}
use Rattle.json_replies.proofs.clue_lists.write_sign.Goals as goal

pub returns : goal.returns
returns c =
    object_follows _ refl c.in_ok-begin_object.ensures
    (more_members c.in_ok-write_error_at.ensures (more_members c.in_ok-write_number_at.ensures c.in_ok-write_number_at-2.ensures))
    c.in_ok-end_object.ensures
