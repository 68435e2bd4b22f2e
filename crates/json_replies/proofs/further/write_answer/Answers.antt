use Rattle.line_steps.specs.Reasons.{StruckBy}
use Rattle.std.proofs.Common.{OnOk, subst}
use Rattle.latin_board.specs.Squares.{GridValue}
use Rattle.json_replies.specs.FurtherLines.{IsHintAnswer}
use Rattle.json_replies.specs.Inner.WrittenData.{FollowsWhere}
use Rattle.json_replies.proofs.further.write_answer.Goals as goal

pub returns-in-Hint : goal.returns-in-Hint
returns-in-Hint g c =
    let p = c.args.puzzle.now in
    let Told = λ (grid : GridValue). OnOk c.hint_answer.result (FollowsWhere (IsHintAnswer (g.P.Rules.puzzle p) g.P.StepNames.grade_letter
    (StruckBy g.P.Rules.puzzle g.P.Steps.own p) (g.P.StepNames.edge_clue_of p) (g.P.StepNames.says_greater_of p) grid)
    c.args.writer.now c.hint_answer.new.writer) in
    rw c.in-Hint.is (subst Told c.grid-in-Hint.ensures c.hint_answer.ensures)

pub returns-in-HintMarks : goal.returns-in-HintMarks
returns-in-HintMarks g c = rw c.in-HintMarks.is c.marks_answer.ensures
