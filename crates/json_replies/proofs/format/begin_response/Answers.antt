use Rattle.line_steps.specs.Reasons.{StruckBy}
use Rattle.std.proofs.Common.{None, false, refl}
use Rattle.line_replies.specs.GameFacts.{GameFacts, facts_of}
use Rattle.line_replies.specs.RunLaws.{described_line}
use Rattle.line_replies.specs.Texts.{text_bytes}
use Rattle.json_replies.specs.BeginLines.{begin_copied}
use Rattle.json_replies.specs.FurtherLines.{BoardFacts}
use Rattle.json_replies.specs.Inner.ToldResponses.{TellsBegun}
use Rattle.json_replies.proofs.ToldResponses.{obeyed, on_refusal, responds, game_told, refused_told}
use Rattle.json_replies.proofs.format.begin_response.Given.{Over}
use Rattle.json_replies.proofs.format.begin_response.Goals as goal

-- what a game says of itself
abbrev facts : (g : Over) → GameFacts g.row.P.Denot
facts g = facts_of g.P.Rules g.P.Game g.P.Draw

-- what a game says of boards
abbrev boards : (g : Over) → BoardFacts g.row.P.Denot
boards g = record {
  demand = g.P.Demands.demand;
  clues = g.P.Shows.clues;
  signs = g.P.Shows.signs;
  struck_by = (StruckBy g.P.Rules.puzzle g.P.Steps.own);
  letter = g.P.StepNames.grade_letter;
  edge_clue = g.P.StepNames.edge_clue_of;
  says_greater = g.P.StepNames.says_greater_of;
  fair_letter = g.P.FairGame.letter_of;
  trial = g.P.FairGame.trial_of;
  initial = g.P.FairGame.initial_code;
  items = g.P.Items;
}

pub returns-in-Ok : goal.returns-in-Ok
returns-in-Ok g c =
    let f = facts g in
    let b = boards g in
    let old = c.args.session.now in
    let new = c.begin_puzzle-answer.new.session in
    let begun = begin_copied c.args.asked in
    let line = described_line f c.in-Ok.params c.in-Ok.puzzle in
    let answer = c.begin_puzzle-answer in
    responds f old new line None (λ before read bytes after. TellsBegun f b before begun bytes after) (λ read. false) answer.result c.told.result refl
    (λ outcome bytes gives leaves told. game_told f b old new begun c.in-Ok.params c.in-Ok.puzzle outcome bytes c.in-Ok.ensures.asked gives leaves told)
    (obeyed f old new line answer.result answer.ensures.ok answer.ensures.err (on_refusal answer.result refl) answer.ensures.why) c.told.ensures

pub returns-in-Err : goal.returns-in-Err
returns-in-Err g c = (
  refl,
  refused_told (facts g) (boards g) c.args.session.now (begin_copied c.args.asked) c.in-Err.refusal c.name.result.now (text_bytes c.refused_object.result)
      c.in-Err.ensures.refused c.name.ensures.name c.refused_object.ensures,
)
