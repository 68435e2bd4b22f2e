use Rattle.std.proofs.Common.{length}
use Rattle.play_save.specs.SaveTexts.{saves_of}
use Rattle.play_save.specs.Inner.Taking.{met_of}
use Rattle.play_save.proofs.ReadingOn.{Reads}
use Rattle.play_save.proofs.loading.find.Given as goal

abbrev pub invariant-loop-rest : goal.invariant-loop-rest
invariant-loop-rest g l =
    let game = saves_of g.P.Rules g.P.Game in
    Reads game l.bytes l.rest (met_of l.met)

abbrev pub decreases-loop-rest : goal.decreases-loop-rest
decreases-loop-rest g l = length l.rest
