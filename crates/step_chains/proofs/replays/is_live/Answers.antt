use Rattle.std.proofs.Common.{ℕ, ◌^◌, ◌<◌, subst, arith}
use Rattle.step_chains.proofs.Live.{live_by_set}
use Rattle.step_chains.proofs.replays.is_live.Goals as goal

pub returns : goal.returns
returns c =
    let low : c.args.step.now.values < 2 ^ 16 = subst (λ (n : ℕ). n < 2 ^ 16) c.bits-bits.ensures (omega arith) in
    live_by_set c.args.candidates.now c.args.step.now c.values.result c.is_subset.result low c.values.ensures c.is_subset.ensures
