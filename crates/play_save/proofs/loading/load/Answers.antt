-- Both laws of save texts, at what was read.
use Rattle.play_save.specs.SaveTexts.{saves_of}
use Rattle.play_save.proofs.GameTexts.{Owes, game_owes}
use Rattle.play_save.proofs.LoadAnswers.{load_found, load_only}
use Rattle.play_save.proofs.loading.load.Given.{Over}
use Rattle.play_save.proofs.loading.load.Goals as goal

-- the game has what saves ask of its descriptions, by its laws
owes : (g : Over) → Owes (saves_of g.P.Rules g.P.Game) g.P.Rules.valid
owes g = let laws = g.met.P.Game in game_owes g.P.Rules g.P.Game laws.desc_taken laws.desc_again laws.desc_canonical

pub returns-clause-found : goal.returns-clause-found
returns-clause-found g c =
    load_found (saves_of g.P.Rules g.P.Game) c.args.bytes.now c.read.result (owes g).texts c.read.ensures

pub returns-clause-only : goal.returns-clause-only
returns-clause-only g c = λ h is.
    load_only (saves_of g.P.Rules g.P.Game) c.args.bytes.now h c.read.result (owes g).texts c.read.ensures is
