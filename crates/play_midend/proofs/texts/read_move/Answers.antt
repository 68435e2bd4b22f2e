use Rattle.play_midend.proofs.MoveTextLaws.{read_only}
use Rattle.play_midend.proofs.texts.read_move.Goals as goal

pub returns-clause-only : goal.returns-clause-only
returns-clause-only c = read_only _ _ c.read_text.ensures
