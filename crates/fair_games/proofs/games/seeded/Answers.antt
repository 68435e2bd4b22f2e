use Rattle.line_steps.specs.Reasons.{StruckBy}
use Rattle.std.proofs.Common.{ℕ, ◌<◌, MatchOption, ◌∙◌, ap, subst}
use Rattle.needed_items.proofs.ItemLaws.{laws_of}
use Rattle.rand_core.specs.Steps.{stream_of, steps_u32}
use Rattle.rand_chacha.specs.ChaCha.{of_seed, next_word}
use Rattle.fair_games.specs.Squares.{fair_key}
use Rattle.fair_games.specs.Draws.{draw_at}
use Rattle.fair_games.specs.Offers.{letter_code}
use Rattle.fair_games.specs.Fair.{IsPassedOver, IsFair, most_draws}
use Rattle.fair_games.proofs.PruneSteps.{HasSteps, steps_of}
use Rattle.fair_games.proofs.FairSteps.{all_promised}
use Rattle.fair_games.proofs.games.seeded.Goals as goal
use Rattle.fair_games.proofs.games.seeded.Given.{Over}

-- the laws of the puzzle's steps
steps : (g : Over) → HasSteps g.P.Rules (StruckBy g.P.Rules.puzzle g.P.Steps.own)
steps g = steps_of g.P.Rules g.P.Steps.own (laws_of g.met.P.Rules) g.met.P.Steps.own_less g.met.P.Steps.own_sound g.met.P.Steps.own_cut

pub returns-clause-promised : goal.returns-clause-promised
returns-clause-promised g c =
    all_promised g.P.Rules (StruckBy g.P.Rules.puzzle g.P.Steps.own) (steps g) c.args.grade (g.P.FairGame.trial_of c.args.grade) c.args.size _ c.find_game.result _
    c.find_game.ensures.needed c.find_game.ensures.fair

pub returns-clause-fair : goal.returns-clause-fair
returns-clause-fair g c =
    let size = c.args.size in
    let grade = c.args.grade in
    let drawn = c.rng_of-rng.ensures ∙ ap (λ (letter : ℕ). of_seed (fair_key size letter c.initial.result c.args.seed)) c.letter_byte.ensures
    ∙ ap (λ (initial : ℕ). of_seed (fair_key size (letter_code (g.P.FairGame.letter_of grade)) initial c.args.seed)) c.initial.ensures in
    subst (λ r. MatchOption c.find_game.result
    ((n : ℕ) → n < most_draws → IsPassedOver g.P.Rules (StruckBy g.P.Rules.puzzle g.P.Steps.own) grade
    (draw_at (g.P.FairGame.trial_of grade) size (g.P.Rules.items_of size) (stream_of (steps_u32 (next_word 10)) r) n))
    (IsFair g.P.Rules (StruckBy g.P.Rules.puzzle g.P.Steps.own) grade
    (draw_at (g.P.FairGame.trial_of grade) size (g.P.Rules.items_of size) (stream_of (steps_u32 (next_word 10)) r)))) drawn c.find_game.ensures.fair
