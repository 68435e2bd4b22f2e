use Rattle.line_steps.specs.Reasons.{StruckBy}
use Rattle.std.proofs.Common.{◌∙◌}
use Rattle.json_replies.proofs.MissingMarks.{full_answer, told_missing}
use Rattle.json_replies.proofs.marked_hints.missing_mark.Goals as goal

pub lacking_of-requires : goal.lacking_of-requires
lacking_of-requires g c =
    full_answer (g.P.Rules.puzzle c.args.puzzle.now) c.args.grid.now c.completion.result c.args.view.now.size c.completion.ensures
    (c.requires.view ∙ c.requires.size)

pub returns-then-is_contradiction : goal.returns-then-is_contradiction
returns-then-is_contradiction g c =
    told_missing (g.P.Rules.puzzle c.args.puzzle.now) (StruckBy g.P.Rules.puzzle g.P.Steps.own c.args.puzzle.now) c.args.grid.now c.args.view.now
    c.args.hint.now c.completion.result c.lacking_of.result (c.is_contradiction.ensures.0 c.if-is_contradiction.true) c.requires.holds
    c.completion.ensures c.lacking_of.ensures
