use Rattle.game_texts.specs.GameIds.{describes_at}
use Rattle.game_texts.proofs.GameIdLemmas.{ReadsGrammar, id_taken, id_again, game_reads}
use Rattle.needed_items.proofs.ItemLaws.{laws_of}
use Rattle.play_save.proofs.GameTexts.{game_owes}
use Rattle.line_replies.specs.GameFacts.{facts_of}
use Rattle.line_replies.specs.Inner.CommandReading.{read_at}
use Rattle.line_replies.proofs.CommandLaws.{line_is_read, read_once}
use Rattle.line_replies.proofs.RepliesOnce.{IdsAreReadOnce, ids_once, output_once}
use Rattle.line_replies.proofs.RepliesTold.{refused_lines_leave, other_replies_answer}
use Rattle.line_replies.proofs.WholePictures.{towers_whole, unequal_whole}
use Rattle.line_replies.proofs.WholeReplies.{replies_are_whole}
use Rattle.line_replies.proofs.StorableReplies.{answers_stay_storable}
use Rattle.line_replies.proofs.CallReplies.{lines_are_calls, other_requests_leave}
use Rattle.line_replies.proofs.UndoReplies.{undo_line_takes_back, redo_line_takes_undo_back}
use Rattle.line_replies.proofs.LinesAnswered.{output_is_there}
use Rattle.line_replies.proofs.SaveReplies.{save_line_loads_back}
use Rattle.line_replies.proofs.DescribedReplies.{described_lines_begin}
use Rattle.line_replies.proofs.SeededReplies.{seeded_lines_have_one}
use Rattle.line_replies.proofs.SymbolsShown.{towers_show, unequal_show}
use Rattle.line_replies.proofs.ViewsTold.{views_tell_boards}
use Rattle.line_replies.proofs.run_laws.laws.Given.{Over}
use Rattle.line_replies.proofs.run_laws.laws.Goals as goal

-- the grammar of descriptions is what reading finds, and IDs are read in one way
reads : (g : Over) → let f = facts_of g.P.Rules g.P.Game g.P.Draw in
    ReadsGrammar g.row.P.Denot f.desc_at (describes_at f.rules.puzzle f.rules.valid f.describes)
reads g =
    let f = facts_of g.P.Rules g.P.Game g.P.Draw in
    game_reads g.row.P.Denot f.rules.puzzle f.rules.valid f.describes f.desc_at g.met.P.Game.desc_taken g.met.P.Game.desc_again

ids : (g : Over) → IdsAreReadOnce (facts_of g.P.Rules g.P.Game g.P.Draw)
ids g =
    let f = facts_of g.P.Rules g.P.Game g.P.Draw in
    ids_once f (λ text id. id_again g.row.P.Denot f.letters f.has_adjacent f.desc_at
    (describes_at f.rules.puzzle f.rules.valid f.describes) text id g.met.P.Game.plain_letters (reads g))

pub returns-clause-read_once : goal.returns-clause-read_once
returns-clause-read_once g c = λ line. (read_at line, line_is_read line, read_once line)

pub returns-clause-refused : goal.returns-clause-refused
returns-clause-refused g c = refused_lines_leave (facts_of g.P.Rules g.P.Game g.P.Draw)

pub returns-clause-answered : goal.returns-clause-answered
returns-clause-answered g c = other_replies_answer (facts_of g.P.Rules g.P.Game g.P.Draw)

pub returns-clause-pictures : goal.returns-clause-pictures
returns-clause-pictures g c = (towers_whole, unequal_whole)

pub returns-clause-whole_lines : goal.returns-clause-whole_lines
returns-clause-whole_lines g c = replies_are_whole (facts_of g.P.Rules g.P.Game g.P.Draw)

pub returns-clause-one_output : goal.returns-clause-one_output
returns-clause-one_output g c = output_once (facts_of g.P.Rules g.P.Game g.P.Draw) (laws_of g.met.P.Rules) (ids g)

pub returns-clause-output : goal.returns-clause-output
returns-clause-output g c =
    let f = facts_of g.P.Rules g.P.Game g.P.Draw in
    output_is_there f (λ text id. id_taken g.row.P.Denot f.letters f.has_adjacent f.desc_at
    (describes_at f.rules.puzzle f.rules.valid f.describes) text id (reads g))

pub returns-clause-stays_storable : goal.returns-clause-stays_storable
returns-clause-stays_storable g c = answers_stay_storable (facts_of g.P.Rules g.P.Game g.P.Draw) (laws_of g.met.P.Rules)

pub returns-clause-calls : goal.returns-clause-calls
returns-clause-calls g c = lines_are_calls (facts_of g.P.Rules g.P.Game g.P.Draw)

pub returns-clause-others : goal.returns-clause-others
returns-clause-others g c = other_requests_leave (facts_of g.P.Rules g.P.Game g.P.Draw)

pub returns-clause-undone : goal.returns-clause-undone
returns-clause-undone g c = undo_line_takes_back (facts_of g.P.Rules g.P.Game g.P.Draw)

pub returns-clause-redone : goal.returns-clause-redone
returns-clause-redone g c = redo_line_takes_undo_back (facts_of g.P.Rules g.P.Game g.P.Draw)

pub returns-clause-loads_back : goal.returns-clause-loads_back
returns-clause-loads_back g c =
    let laws = g.met.P.Game in
    save_line_loads_back (facts_of g.P.Rules g.P.Game g.P.Draw) (laws_of g.met.P.Rules) (ids g)
    (game_owes g.P.Rules g.P.Game laws.desc_taken laws.desc_again laws.desc_canonical)

pub returns-clause-described : goal.returns-clause-described
returns-clause-described g c =
    described_lines_begin (facts_of g.P.Rules g.P.Game g.P.Draw) (laws_of g.met.P.Rules) (ids g) g.met.P.Game.desc_canonical

pub returns-clause-seeded : goal.returns-clause-seeded
returns-clause-seeded g c = seeded_lines_have_one (facts_of g.P.Rules g.P.Game g.P.Draw) (laws_of g.met.P.Rules) (ids g)

pub returns-clause-numbers : goal.returns-clause-numbers
returns-clause-numbers g c = (towers_show, unequal_show)

pub returns-clause-boards : goal.returns-clause-boards
returns-clause-boards g c = views_tell_boards (facts_of g.P.Rules g.P.Game g.P.Draw)
