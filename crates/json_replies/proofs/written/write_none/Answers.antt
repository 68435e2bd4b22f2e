use Rattle.std.proofs.Common.{[]}
use Rattle.json_replies.proofs.WrittenData.{list_follows, none_follow}
use Rattle.json_replies.proofs.written.write_none.Goals as goal

pub returns : goal.returns
returns c = list_follows {ds = []} c.in_ok-begin_array.ensures (none_follow _) c.in_ok-end_array.ensures
