use Rattle.line_steps.specs.Reasons.{StruckBy}
use Rattle.std.proofs.Common.{◌∷◌, [], ℕ, List, subst}
use Rattle.line_replies.specs.GameFacts.{facts_of}
use Rattle.json_replies.specs.FurtherLines.{BoardFacts}
use Rattle.json_replies.specs.Inner.WrittenData.{MembersFollow}
use Rattle.json_replies.proofs.ToldReplies.{answer_told}
use Rattle.json_replies.proofs.WrittenData.{key_follows}
use Rattle.json_replies.proofs.further.write_answer_at.Goals as goal

pub returns : goal.returns
returns g c =
    let b : BoardFacts g.row.P.Denot = record {
      demand = g.P.Demands.demand;
      clues = g.P.Shows.clues;
      signs = g.P.Shows.signs;
      struck_by = (StruckBy g.P.Rules.puzzle g.P.Steps.own);
      letter = g.P.StepNames.grade_letter;
      edge_clue = g.P.StepNames.edge_clue_of;
      says_greater = g.P.StepNames.says_greater_of;
      fair_letter = g.P.FairGame.letter_of;
      trial = g.P.FairGame.trial_of;
      initial = g.P.FairGame.initial_code;
      items = g.P.Items;
    } in
    let (answer, is, follow) = c.in_ok-write_answer.ensures in (
      answer,
      answer_told (facts_of g.P.Rules g.P.Game g.P.Draw) b c.args.session.now c.puzzle.result.now c.board.result.now
          c.args.which answer c.puzzle.ensures c.board.ensures.shown is,
      subst (λ (k : List ℕ). MembersFollow ((k, answer) ∷ []) c.args.writer.now c.write_answer.new.writer) c.key.ensures
          (key_follows c.in_ok-key.ensures follow),
    )
