use Rattle.line_steps.proofs.GroupPasses.{united_on}
use Rattle.line_steps.proofs.steps.group_passes.values_of.Goals as goal

pub loop-k-preserved : goal.loop-k-preserved
loop-k-preserved c = λ v.
    united_on c.args.sets.now c.args.squares c.loop-k.values c.values_at.result c.union-values.result c.loop-k.k v (c.loop-k.invariant v)
    (c.values_at.ensures v) (c.union-values.ensures.members v)
