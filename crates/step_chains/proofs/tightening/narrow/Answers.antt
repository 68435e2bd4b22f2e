use Rattle.line_steps.specs.Laws.Less.{all_less}
use Rattle.line_steps.specs.Reasons.{StruckBy}
use Rattle.std.proofs.Common.{◌≤◌, refl, ◌∙◌, subst, arith}
use Rattle.trail_solver.specs.Candidates.{CandidatesValue}
use Rattle.named_steps.specs.Chains.{Shows}
use Rattle.step_chains.specs.ChainValues.{steps_of}
use Rattle.step_chains.specs.Inner.Aims.{aim_goal}
use Rattle.step_chains.specs.Inner.Tight.{IsLeftOut}
use Rattle.step_chains.proofs.Spare.{left_out_timely, narrowed_on, needed_all, needed_none}
use Rattle.step_chains.proofs.tightening.narrow.Goals as goal

pub loop-value-init : goal.loop-value-init
loop-value-init g c = (
  refl,
  refl,
  λ done. (
    done.shows,
    record {
      tight = done.tight;
      needed = done.needed;
      here = needed_none (StruckBy g.P.Rules.puzzle g.P.Steps.own c.args.p.now) c.args.grade c.args.candidates.now c.args.index (steps_of c.args.steps.now.items) (aim_goal c.args.aim) done.shows;
    },
    λ timely. timely,
  ),
)

pub loop-value-preserved : goal.loop-value-preserved
loop-value-preserved g c =
    let Struck = StruckBy g.P.Rules.puzzle g.P.Steps.own c.args.p.now in
    let start = c.args.candidates.now in
    let index = c.args.index in
    let value = c.loop-value.value in
    let before = c.loop-value.invariant in
    let old = c.loop-value.steps.items in
    let new = c.leave_out.new.steps.items in
    let aim = aim_goal c.args.aim in (
      c.leave_out.ensures.same ∙ before.0,
      c.leave_out.ensures.length ∙ before.1,
      λ done.
          let was = before.2 done in
          let out = subst (λ (d : CandidatesValue). Shows Struck c.args.grade d (steps_of old) aim
          → Shows Struck c.args.grade d (steps_of new) aim × IsLeftOut Struck c.args.grade d index value old new aim) before.0 c.leave_out.ensures.left was.0 in (
            out.0,
            narrowed_on Struck (all_less (g.P.Rules.puzzle c.args.p.now) (g.P.Steps.own c.args.p.now) (g.met.P.Steps.own_less c.args.p.now)) c.args.grade start index value old new aim was.0 out.1 was.1,
            λ timely. left_out_timely Struck c.args.grade start index value old new aim out.1 (was.2 timely),
          ),
    )

pub returns-clause-narrowed : goal.returns-clause-narrowed
returns-clause-narrowed g c = λ done.
    let Struck = StruckBy g.P.Rules.puzzle g.P.Steps.own c.args.p.now in
    let start = c.args.candidates.now in
    let steps = c.loop-value.steps.items in
    let aim = aim_goal c.args.aim in
    let was = c.loop-value.invariant.2 done in
    let small : start.size ≤ 9 = omega (arith, c.size-size.ensures.valid.largest) in
    record {
      done = record {
        inside = omega (arith, done.inside, c.loop-value.invariant.1);
        shows = was.0;
        tight = was.1.tight;
        needed = was.1.needed;
      };
      here = needed_all Struck c.args.grade start c.args.index c.loop-value.value (steps_of steps) aim small (omega (arith, c.loop-value-test.false)) was.0 was.1.here;
      timely = was.2;
    }
