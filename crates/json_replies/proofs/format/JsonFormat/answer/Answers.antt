use Rattle.line_steps.specs.Reasons.{StruckBy}
use Rattle.std.proofs.Common.{refl, sym}
use Rattle.std.specs.Option.{option_copied}
use Rattle.line_replies.specs.Commands.{is_quit}
use Rattle.line_replies.specs.GameFacts.{GameFacts, facts_of}
use Rattle.line_replies.specs.Texts.{text_bytes}
use Rattle.json_replies.specs.FurtherLines.{BoardFacts, further_at}
use Rattle.json_replies.specs.BeginLines.{begin_copied}
use Rattle.json_replies.proofs.ToldReplies.{no_quit, further_told}
use Rattle.json_replies.specs.JsonReplies.{JsonReply}
use Rattle.json_replies.proofs.ToldResponses.{obeyed, responds, plain_told, begin_told}
use Rattle.json_replies.proofs.format.JsonFormat.answer.Given.{Over}
use Rattle.json_replies.proofs.format.JsonFormat.answer.Goals as goal

-- what a game says of itself
abbrev facts : (g : Over) → GameFacts g.row.P.Denot
facts g = facts_of g.P.Rules g.P.Game g.P.Draw

-- what a game says of boards
abbrev boards : (g : Over) → BoardFacts g.row.P.Denot
boards g = record {
  demand = g.P.Demands.demand;
  clues = g.P.Shows.clues;
  signs = g.P.Shows.signs;
  struck_by = (StruckBy g.P.Rules.puzzle g.P.Steps.own);
  letter = g.P.StepNames.grade_letter;
  edge_clue = g.P.StepNames.edge_clue_of;
  says_greater = g.P.StepNames.says_greater_of;
  fair_letter = g.P.FairGame.letter_of;
  trial = g.P.FairGame.trial_of;
  initial = g.P.FairGame.initial_code;
  items = g.P.Items;
}

pub returns-in-Some : goal.returns-in-Some
returns-in-Some g c =
    let line = option_copied c.args.line in
    let is = sym c.in-Some.ensures in (
      no_quit (further_at g.P.FairGame.letter_of) line c.in-Some.asked refl is,
      further_told (facts g) (boards g) c.args.session.now line c.in-Some.asked (text_bytes c.further_object.result) is c.further_object.ensures,
    )

pub returns-in-Some-read_begin : goal.returns-in-Some-read_begin
returns-in-Some-read_begin g c =
    begin_told (facts g) (boards g) c.args.session.now c.begin_response.new.session (option_copied c.args.line) (begin_copied c.in-Some-read_begin.asked)
    c.begin_response.result (sym c.in-None.ensures) (sym c.in-Some-read_begin.ensures) c.begin_response.ensures

pub returns-in-None-read_begin : goal.returns-in-None-read_begin
returns-in-None-read_begin g c =
    let f = facts g in
    let b = boards g in
    let old = c.args.session.now in
    let new = c.execute-answer.new.session in
    let line = option_copied c.args.line in
    let execute = c.execute-answer in
    responds f old new line line (JsonReply f b) is_quit execute.result c.told.result refl
    (λ outcome bytes gives leaves told. plain_told f b old new line outcome bytes (sym c.in-None.ensures)
    (λ asked is. absurd (cc (c.in-None-read_begin.ensures, is))) gives leaves told)
    (obeyed f old new line execute.result execute.ensures.ok execute.ensures.err execute.ensures.goes_on execute.ensures.why) c.told.ensures
