use Rattle.std.proofs.Common.{arith}
use Rattle.json_replies.proofs.WrittenData.{count_follows}
use Rattle.json_replies.proofs.written.write_number.Goals as goal

pub returns : goal.returns
returns c = count_follows (omega arith) c.in_ok-u64.ensures
