use Rattle.std.proofs.Common.{inl}
use Rattle.puzzles.proofs.whole_game.play_words.Goals as goal

-- src/whole_game.rt: the words are read, and their game is played
pub returns-in-Ok : goal.returns-in-Ok
returns-in-Ok g c = inl (c.in-Ok.args, c.in-Ok.ensures, c.play.ensures.game)
