use Rattle.std.proofs.Common.{length, ap, arith}
use Rattle.json_replies.proofs.ListedItems.{says_more}
use Rattle.json_replies.proofs.listed_items.listed_items.Goals as goal

pub loop-item-init : goal.loop-item-init
loop-item-init g c = record { count = ap length c.new-listed.ensures.items; each = λ i below. absurd (omega (arith, below)) }

pub loop-item-preserved : goal.loop-item-preserved
loop-item-preserved g c =
    says_more _ c.loop-item.item c.loop-item.listed.items _ _ c.in_ok-push.ensures.items c.is_listed.ensures c.loop-item.invariant
