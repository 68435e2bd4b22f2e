use Rattle.line_steps.specs.Reasons.{StruckBy}
use Rattle.std.proofs.Common.{◌∙◌, Some, subst}
use Rattle.line_replies.specs.GameFacts.{facts_of}
use Rattle.line_replies.specs.SessionReplies.{shown_board}
use Rattle.json_replies.specs.FurtherLines.{BoardFacts}
use Rattle.json_replies.specs.ObjectLines.{IsLineOfData}
use Rattle.json_replies.specs.Inner.ObjectMembers.{further_list}
use Rattle.json_replies.specs.Sessions.{game_data}
use Rattle.json_replies.proofs.Spellings.{session_fits, told_fits}
use Rattle.json_replies.proofs.WrittenData.{object_follows}
use Rattle.json_replies.proofs.ObjectLines.{further_in_order, further_fits, line_of}
use Rattle.json_replies.proofs.further.answer_line.Goals as goal

pub returns : goal.returns
returns g c =
    let f = facts_of g.P.Rules g.P.Game g.P.Draw in
    let b : BoardFacts g.row.P.Denot = record {
      demand = g.P.Demands.demand;
      clues = g.P.Shows.clues;
      signs = g.P.Shows.signs;
      struck_by = (StruckBy g.P.Rules.puzzle g.P.Steps.own);
      letter = g.P.StepNames.grade_letter;
      edge_clue = g.P.StepNames.edge_clue_of;
      says_greater = g.P.StepNames.says_greater_of;
      fair_letter = g.P.FairGame.letter_of;
      trial = g.P.FairGame.trial_of;
      initial = g.P.FairGame.initial_code;
      items = g.P.Items;
    } in
    let h = c.args.session.now in
    let which = c.args.which in
    let (answer, is, members) = c.in_ok-write_members.ensures in
    let (order, whole) = further_in_order which answer (game_data f h) in
    let told = told_fits f b (record { clues = g.met.P.Shows.clues_fit; signs = g.met.P.Shows.signs_fit }) h.puzzle (shown_board f h)
    which answer is in (
      answer,
      is,
      subst (λ d. IsLineOfData d c.in_ok-ended.field-0.items) whole
          (line_of (c.new-writer.ensures.before ∙ c.new.ensures.items) c.new-writer.ensures.tokens
          (object_follows (further_list which answer (game_data f h)) order c.in_ok-begin_object.ensures members
          c.in_ok-end_object.ensures)
          c.in_ok-ended.ensures.text c.in_ok-ended.ensures.reads_back
          (further_fits which answer (game_data f h) told (session_fits f (Some h)))),
    )
