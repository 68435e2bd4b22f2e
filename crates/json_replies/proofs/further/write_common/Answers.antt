use Rattle.json_replies.proofs.WrittenData.{more_members, key_follows}
use Rattle.json_replies.proofs.further.write_common.Goals as goal

pub returns : goal.returns
returns g c = more_members c.in_ok-write_said.ensures (key_follows c.in_ok-key.ensures c.in_ok-write_game.ensures)
