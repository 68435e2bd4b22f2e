use Rattle.line_steps.specs.Reasons.{StruckBy}
use Rattle.needed_items.specs.Needed.{IsSpare}
use Rattle.json_replies.specs.ListedItems.{Passes}
use Rattle.json_replies.proofs.ListedItems.{SaysOf}
use Rattle.json_replies.proofs.listed_items.listed_items.Given as goal

abbrev pub invariant-loop-item : goal.invariant-loop-item
invariant-loop-item g l =
    SaysOf (λ i. IsSpare g.P.Rules (Passes g.P.Rules (StruckBy g.P.Rules.puzzle g.P.Steps.own) l.by) l.puzzle i) l.item l.listed.items
