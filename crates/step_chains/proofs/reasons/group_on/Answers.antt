use Rattle.std.proofs.Common.{sym, ap, ◌∙◌}
use Rattle.std.specs.Prelude.{Some, count_ones}
use Rattle.line_steps.specs.declared.reason.Reason.TheVariants.{Set}
use Rattle.step_chains.proofs.Idle.{group_inside, union_same}
use Rattle.step_chains.proofs.reasons.group_on.Goals as goal

pub returns : goal.returns
returns c = λ values line_is below is.
    let same = union_same c.args.candidates.now c.args.line c.args.squares c.left_of.result values
    (group_inside c.args.candidates.now.size c.args.squares below) c.left_of.ensures is.0 in
    c.group.ensures (sym (ap count_ones same) ∙ is.1) ∙ ap (λ v. Some (Set c.args.line c.args.squares v)) (sym same)
