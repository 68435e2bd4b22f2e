use Rattle.line_steps.specs.Reasons.{StruckBy}
use Rattle.std.proofs.Common.{refl, sym}
use Rattle.step_chains.proofs.Idle.{new_step}
use Rattle.step_chains.proofs.next_steps.step_in.Goals as goal

pub returns : goal.returns
returns g c =
    new_step (StruckBy g.P.Rules.puzzle g.P.Steps.own c.args.p.now) c.args.grade c.args.candidates.now c.args.reason.now c.args.cell c.intersection-values.result _
    c.size-size.ensures.valid.largest (sym c.if-not-has.ensures)
    (record {
      struck = c.strikes-struck.result;
      left = c.values.result;
      is_struck = c.strikes-struck.ensures;
      is_left = c.values.ensures;
      both = c.intersection-values.ensures.members;
    }) c.if-is_empty.ensures.members refl
