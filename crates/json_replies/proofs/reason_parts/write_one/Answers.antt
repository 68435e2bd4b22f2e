use Rattle.json_replies.proofs.WrittenData.{list_follows}
use Rattle.json_replies.proofs.reason_parts.write_one.Goals as goal

pub returns : goal.returns
returns c = list_follows c.in_ok-begin_array.ensures c.in_ok-write_number.ensures c.in_ok-end_array.ensures
