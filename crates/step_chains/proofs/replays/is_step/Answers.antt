use Rattle.line_steps.specs.Reasons.{StruckBy}
use Rattle.std.proofs.Common.{ℕ, ◌^◌, ◌<◌, sym, subst, arith}
use Rattle.step_chains.proofs.Followed.{step_tested}
use Rattle.step_chains.proofs.replays.is_step.Goals as goal

pub returns : goal.returns
returns g c =
    let low : c.args.step.now.values < 2 ^ 16 = subst (λ (n : ℕ). n < 2 ^ 16) c.bits-bits.ensures (omega arith) in
    step_tested (StruckBy g.P.Rules.puzzle g.P.Steps.own c.args.p.now) c.args.grade c.args.candidates.now (g.P.Rules.puzzle c.args.p.now).size c.args.step.now c.struck-set.result
    c.is_subset.result low c.requires c.struck-set.ensures c.is_subset.ensures (sym c.if-not-has.ensures)
