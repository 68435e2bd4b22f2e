use Rattle.line_steps.specs.Reasons.{StruckBy}
use Rattle.std.proofs.Common.{OnOk, ◌∙◌, subst}
use Rattle.json.specs.Written.{Written}
use Rattle.json_replies.specs.FurtherLines.{IsMarksAnswer}
use Rattle.json_replies.specs.Inner.WrittenData.{FollowsWhere}
use Rattle.json_replies.proofs.MissingMarks.{otherwise_so}
use Rattle.json_replies.proofs.marked_hints.marks_answer.Goals as goal

pub returns : goal.returns
returns g c =
    let p = c.args.puzzle.now in
    let Told = λ (old : Written). OnOk c.refuted_answer.result (FollowsWhere (IsMarksAnswer (g.P.Rules.puzzle p) g.P.StepNames.grade_letter
    (StruckBy g.P.Rules.puzzle g.P.Steps.own p) (g.P.StepNames.edge_clue_of p) (g.P.StepNames.says_greater_of p) c.args.board.now)
    old c.refuted_answer.new.writer) in
    let first = otherwise_so _ _ c.in_ok-told_from_marks.field-0 c.if-branch.false c.in_ok-told_from_marks.ensures in
    let second = otherwise_so _ _ c.in_ok-told_from_numbers.field-0 c.if-branch-2.false c.in_ok-told_from_numbers.ensures in
    subst Told (second.0 ∙ first) c.refuted_answer.ensures
