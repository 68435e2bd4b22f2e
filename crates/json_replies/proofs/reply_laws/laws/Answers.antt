use Rattle.line_steps.specs.Reasons.{StruckBy}
use Rattle.game_texts.specs.GameIds.{describes_at}
use Rattle.game_texts.proofs.GameIdLemmas.{id_again, game_reads}
use Rattle.needed_items.proofs.ItemLaws.{laws_of}
use Rattle.fair_games.proofs.PruneSteps.{HasSteps, steps_of}
use Rattle.line_replies.specs.GameFacts.{GameFacts, facts_of}
use Rattle.line_replies.proofs.RepliesOnce.{IdsAreReadOnce, ids_once}
use Rattle.json_replies.specs.FurtherLines.{BoardFacts}
use Rattle.json_replies.proofs.WholeReplies.{lines_are_the_reply}
use Rattle.json_replies.proofs.ToldOnce.{objects_tell_one_reply, objects_are_not_lost}
use Rattle.json_replies.proofs.AnswersLeave.{answers_leave}
use Rattle.json_replies.proofs.BeginReading.{item_lines_ask}
use Rattle.json_replies.proofs.FairStarts.{fair_lines_begin}
use Rattle.json_replies.proofs.FairHints.{hints_lead_on}
use Rattle.json_replies.proofs.HintsToEnd.{hints_lead_to_the_end}
use Rattle.json_replies.proofs.MarkedHints.{marks_are_no_harder, marks_lead_on}
use Rattle.json_replies.proofs.MarksToEnd.{marks_lead_to_the_end}
use Rattle.json_replies.proofs.HintLines.{hint_lines_write, played_hints_solve}
use Rattle.json_replies.proofs.reply_laws.laws.Given.{Over}
use Rattle.json_replies.proofs.reply_laws.laws.Goals as goal

-- what a game says of itself
abbrev facts : (g : Over) → GameFacts g.row.P.Denot
facts g = facts_of g.P.Rules g.P.Game g.P.Draw

-- what a game says of boards
abbrev boards : (g : Over) → BoardFacts g.row.P.Denot
boards g = record {
  demand = g.P.Demands.demand;
  clues = g.P.Shows.clues;
  signs = g.P.Shows.signs;
  struck_by = (StruckBy g.P.Rules.puzzle g.P.Steps.own);
  letter = g.P.StepNames.grade_letter;
  edge_clue = g.P.StepNames.edge_clue_of;
  says_greater = g.P.StepNames.says_greater_of;
  fair_letter = g.P.FairGame.letter_of;
  trial = g.P.FairGame.trial_of;
  initial = g.P.FairGame.initial_code;
  items = g.P.Items;
}

-- IDs are read in one way
ids : (g : Over) → IdsAreReadOnce (facts g)
ids g =
    let f = facts g in
    let reads = game_reads g.row.P.Denot f.rules.puzzle f.rules.valid f.describes f.desc_at g.met.P.Game.desc_taken g.met.P.Game.desc_again in
    ids_once f (λ text id. id_again g.row.P.Denot f.letters f.has_adjacent f.desc_at
    (describes_at f.rules.puzzle f.rules.valid f.describes) text id g.met.P.Game.plain_letters reads)

-- the laws of the puzzle's steps
steps : (g : Over) → HasSteps g.P.Rules (StruckBy g.P.Rules.puzzle g.P.Steps.own)
steps g = steps_of g.P.Rules g.P.Steps.own (laws_of g.met.P.Rules) g.met.P.Steps.own_less g.met.P.Steps.own_sound g.met.P.Steps.own_cut

pub returns-clause-lines : goal.returns-clause-lines
returns-clause-lines g c = lines_are_the_reply

pub returns-clause-one_reply : goal.returns-clause-one_reply
returns-clause-one_reply g c = objects_tell_one_reply (facts g) (boards g)

pub returns-clause-not_lost : goal.returns-clause-not_lost
returns-clause-not_lost g c = objects_are_not_lost (facts g) (boards g)

pub returns-clause-answers : goal.returns-clause-answers
returns-clause-answers g c = answers_leave (facts g) (boards g)

pub returns-clause-items : goal.returns-clause-items
returns-clause-items g c = item_lines_ask

pub returns-clause-fair : goal.returns-clause-fair
returns-clause-fair g c = fair_lines_begin (facts g) (boards g) (steps g) (ids g) g.met.P.Game.desc_canonical g.met.P.Shows.fair_letters

pub returns-clause-hints : goal.returns-clause-hints
returns-clause-hints g c = hints_lead_on (facts g) (boards g) (steps g).less c.laws.ensures.nested

pub returns-clause-hints_end : goal.returns-clause-hints_end
returns-clause-hints_end g c = hints_lead_to_the_end (facts g) (boards g) (returns-clause-hints g c)

pub returns-clause-marks : goal.returns-clause-marks
returns-clause-marks g c = marks_lead_on (facts g) (boards g) (steps g).less c.laws.ensures.nested

pub returns-clause-marks_end : goal.returns-clause-marks_end
returns-clause-marks_end g c = marks_lead_to_the_end (facts g) (boards g) (steps g).less c.laws.ensures.nested

pub returns-clause-marks_grade : goal.returns-clause-marks_grade
returns-clause-marks_grade g c = marks_are_no_harder (facts g) (boards g) (steps g).less

pub returns-clause-hint_lines : goal.returns-clause-hint_lines
returns-clause-hint_lines g c = hint_lines_write (facts g) (boards g)

pub returns-clause-hints_played : goal.returns-clause-hints_played
returns-clause-hints_played g c = played_hints_solve (facts g) (boards g) (returns-clause-hints_end g c)
