use Rattle.std.proofs.Common.{refl}
use Rattle.json_replies.proofs.WrittenData.{object_follows}
use Rattle.json_replies.proofs.listed_items.write_place.Goals as goal

pub returns : goal.returns
returns c = object_follows _ refl c.in_ok-begin_object.ensures c.in_ok-write_place_at.ensures c.in_ok-end_object.ensures
