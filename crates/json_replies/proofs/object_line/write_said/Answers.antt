use Rattle.json_replies.proofs.WrittenData.{more_members, key_follows}
use Rattle.json_replies.proofs.object_line.write_said.Goals as goal

pub returns : goal.returns
returns c =
    more_members (key_follows c.in_ok-key.ensures c.in_ok-write_name.ensures)
    (key_follows c.in_ok-key-2.ensures c.in_ok-write_reply.ensures)
