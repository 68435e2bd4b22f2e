-- The laws of save texts, by what saves ask of a game.
use Rattle.play_save.specs.SaveTexts.{saves_of}
use Rattle.play_save.proofs.GameTexts.{game_owes}
use Rattle.play_save.proofs.LoadAnswers.{saves_one_session, faults_where_none, saves_are_storable}
use Rattle.play_save.proofs.SavedWritten.{written_is_saved, written_saves_no_other}
use Rattle.play_save.proofs.save_laws.laws.Goals as goal

pub returns : goal.returns
returns g c =
    let game = saves_of g.P.Rules g.P.Game in
    let valid = g.P.Rules.valid in
    let laws = g.met.P.Game in
    let owes = game_owes g.P.Rules g.P.Game laws.desc_taken laws.desc_again laws.desc_canonical in
    record {
      one_session = saves_one_session game owes.texts;
      fault_or_session = faults_where_none game owes.texts;
      saves_are_storable = saves_are_storable g.P.Rules g.P.Game;
      written_is_saved = written_is_saved game valid owes;
      written_saves_no_other = written_saves_no_other game valid owes;
    }
