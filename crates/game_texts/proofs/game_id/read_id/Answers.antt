-- Both laws of game IDs, by what the game owes of its descriptions.
use Rattle.std.proofs.Common.{◌∙◌, Result, subst, sym}
use Rattle.game_texts.specs.GameIds.{describes_at}
use Rattle.game_texts.specs.declared.id_fault.IdFault.{IdFault}
use Rattle.game_texts.specs.declared.game_id.GameId.{GameId}
use Rattle.game_texts.specs.IdFaults.{NotForMemory}
use Rattle.game_texts.specs.Parameters.{has_adjacent_mode}
use Rattle.game_texts.proofs.GameIdLemmas.{id_not_for_memory, id_found, id_again, game_reads}
use Rattle.game_texts.proofs.game_id.read_id.Goals as goal

pub returns-clause-found : goal.returns-clause-found
returns-clause-found g c =
    let game = g.P.Game in
    let rules = g.P.Rules in
    id_found g.row.P.Denot game.letter_codes (has_adjacent_mode game.title) game.desc_at
    (describes_at rules.puzzle rules.valid game.describes) c.args.text.now c.parse_id.result
    (game_reads g.row.P.Denot rules.puzzle rules.valid game.describes game.desc_at g.met.P.Game.desc_taken g.met.P.Game.desc_again)
    c.parse_id.ensures

pub returns-clause-only : goal.returns-clause-only
returns-clause-only g c = λ id text.
    let game = g.P.Game in
    let rules = g.P.Rules in
    c.parse_id.ensures
    ∙ id_again g.row.P.Denot game.letter_codes (has_adjacent_mode game.title) game.desc_at
    (describes_at rules.puzzle rules.valid game.describes) c.args.text.now id g.met.P.Game.plain_letters
    (game_reads g.row.P.Denot rules.puzzle rules.valid game.describes game.desc_at g.met.P.Game.desc_taken g.met.P.Game.desc_again)
    text

pub returns-clause-not_for_memory : goal.returns-clause-not_for_memory
returns-clause-not_for_memory g c =
    let game = g.P.Game in
    subst (λ (r : Result (GameId g.row.P.Denot) IdFault). NotForMemory r) (sym c.parse_id.ensures)
    (id_not_for_memory game.letter_codes (has_adjacent_mode game.title) game.desc_at g.met.P.Game.desc_not_for_memory c.args.text.now)
