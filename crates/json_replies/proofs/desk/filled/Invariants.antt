use Rattle.std.proofs.Common.{◌≡◌}
use Rattle.json_replies.proofs.Filling.{is_left}
use Rattle.json_replies.proofs.desk.filled.Given as goal

abbrev pub invariant-loop-item : goal.invariant-loop-item
invariant-loop-item g l = l.filled ≡ g.P.Rules.cut (g.P.Rules.full_of l.grid) (is_left g.P.Rules l.puzzle l.item)
