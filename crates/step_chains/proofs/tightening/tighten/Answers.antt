use Rattle.line_steps.specs.Laws.Less.{all_less}
use Rattle.line_steps.specs.Reasons.{StruckBy}
use Rattle.std.proofs.Common.{◌≡◌, ◌+◌, ◌-◌, ◌<◌, ◌^◌, ℕ, length, ◌∙◌, sym, subst, arith}
use Rattle.trail_solver.specs.Candidates.{CandidatesValue}
use Rattle.step_chains.specs.Inner.Aims.{aim_goal}
use Rattle.step_chains.specs.Inner.Tight.{IsDoneFrom, IsNarrowedTo}
use Rattle.step_chains.proofs.Live.{removed_timely}
use Rattle.step_chains.proofs.Spare.{narrowed_goes, narrowed_stays, parts_at}
use Rattle.step_chains.proofs.tightening.tighten.Goals as goal

pub loop-index-preserved-then-is_empty : goal.loop-index-preserved-then-is_empty
loop-index-preserved-then-is_empty g c =
    let Struck = StruckBy g.P.Rules.puzzle g.P.Steps.own c.args.p.now in
    let start = c.args.candidates.now in
    let before = c.loop-index.invariant in
    let index = c.loop-index.index - 1 in
    let old = c.loop-index.steps.items in
    let steps = c.narrow.new.steps.items in
    let aim = aim_goal c.args.aim in
    let s = c.index-step.result.now in
    let next : index + 1 ≡ c.loop-index.index = omega (arith, c.loop-index-test.true) in
    let inside : index < length steps = omega (arith, before.1.done.inside, c.loop-index-test.true, c.narrow.ensures.length) in
    let low : s.values < 2 ^ 16 = subst (λ (n : ℕ). n < 2 ^ 16) c.bits-bits.ensures (omega arith) in
    let (front, back, parts, at) = parts_at steps index s inside c.index-step.ensures in
    let done = subst (λ (n : ℕ). IsDoneFrom Struck c.args.grade start n old aim) (sym next) before.1.done in
    let now = subst (λ (d : CandidatesValue). IsDoneFrom Struck c.args.grade d (index + 1) old aim
    → IsNarrowedTo Struck c.args.grade d index old steps aim) before.0 c.narrow.ensures.narrowed done in (
      c.narrow.ensures.same ∙ before.0,
      record {
        done = narrowed_goes Struck (all_less (g.P.Rules.puzzle c.args.p.now) (g.P.Steps.own c.args.p.now) (g.met.P.Steps.own_less c.args.p.now)) c.args.grade start index steps front back c.remove.new.self.items s aim
            parts at low c.if-is_empty.ensures.members now.done.shows now.done.tight now.done.needed c.remove.ensures.items;
        timely = λ timely. removed_timely start steps c.remove.new.self.items index inside c.remove.ensures.items (now.timely (before.1.timely timely));
      },
    )

pub loop-index-preserved : goal.loop-index-preserved
loop-index-preserved g c =
    let Struck = StruckBy g.P.Rules.puzzle g.P.Steps.own c.args.p.now in
    let start = c.args.candidates.now in
    let before = c.loop-index.invariant in
    let index = c.loop-index.index - 1 in
    let old = c.loop-index.steps.items in
    let steps = c.narrow.new.steps.items in
    let aim = aim_goal c.args.aim in
    let s = c.index-step.result.now in
    let next : index + 1 ≡ c.loop-index.index = omega (arith, c.loop-index-test.true) in
    let inside : index < length steps = omega (arith, before.1.done.inside, c.loop-index-test.true, c.narrow.ensures.length) in
    let low : s.values < 2 ^ 16 = subst (λ (n : ℕ). n < 2 ^ 16) c.bits-bits.ensures (omega arith) in
    let some = c.if-is_empty.ensures.members in
    let (front, back, parts, at) = parts_at steps index s inside c.index-step.ensures in
    let done = subst (λ (n : ℕ). IsDoneFrom Struck c.args.grade start n old aim) (sym next) before.1.done in
    let now = subst (λ (d : CandidatesValue). IsDoneFrom Struck c.args.grade d (index + 1) old aim
    → IsNarrowedTo Struck c.args.grade d index old steps aim) before.0 c.narrow.ensures.narrowed done in (
      c.narrow.ensures.same ∙ before.0,
      record {
        done = narrowed_stays Struck (all_less (g.P.Rules.puzzle c.args.p.now) (g.P.Steps.own c.args.p.now) (g.met.P.Steps.own_less c.args.p.now)) c.args.grade start index steps front back s some.0 aim parts at low
            some.1 now.done.shows now.done.tight now.done.needed now.here;
        timely = λ timely. now.timely (before.1.timely timely);
      },
    )
