-- Both laws of parameters, at what was read.
use Rattle.std.proofs.Common.{◌≡◌, ◌∙◌}
use Rattle.game_texts.specs.Parameters.{has_adjacent_mode, params_at}
use Rattle.game_texts.proofs.ParameterLemmas.{params_found, params_again}
use Rattle.game_texts.proofs.params.Params.read.Goals as goal

pub returns-clause-found : goal.returns-clause-found
returns-clause-found g c =
    let game = g.P.Game in
    let value : c.read_params.result ≡ params_at game.letter_codes (has_adjacent_mode game.title) c.args.text.now =
    rw (← c.letters.ensures, ← c.name.ensures, ← c.has_adjacent_mode.ensures) c.read_params.ensures in
    params_found game.letter_codes (has_adjacent_mode game.title) c.args.text.now c.read_params.result value

pub returns-clause-only : goal.returns-clause-only
returns-clause-only g c = λ p text.
    let game = g.P.Game in
    let value : c.read_params.result ≡ params_at game.letter_codes (has_adjacent_mode game.title) c.args.text.now =
    rw (← c.letters.ensures, ← c.name.ensures, ← c.has_adjacent_mode.ensures) c.read_params.ensures in
    value ∙ params_again game.letter_codes (has_adjacent_mode game.title) c.args.text.now p text
