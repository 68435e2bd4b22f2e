use Rattle.json_replies.proofs.WrittenData.{more_members, member_is}
use Rattle.json_replies.proofs.written.write_place_at.Goals as goal

pub returns : goal.returns
returns c =
    more_members (member_is c.x_of.ensures c.in_ok-write_integer_at.ensures)
    (member_is c.y_of.ensures c.in_ok-write_integer_at-2.ensures)
