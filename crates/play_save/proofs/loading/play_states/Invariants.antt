use Rattle.std.proofs.Common.{◌≡◌, ◌+◌, drop, map}
use Rattle.play_save.specs.SaveTexts.{saves_of}
use Rattle.play_save.specs.FirstFaults.{states_played}
use Rattle.play_save.specs.Inner.Taking.{state_of}
use Rattle.play_save.proofs.loading.play_states.Given as goal

abbrev pub invariant-loop-index : goal.invariant-loop-index
invariant-loop-index g l =
    let game = saves_of g.P.Rules g.P.Game in
    states_played game l.session (l.index + 1) (map state_of (drop l.index l.states))
    ≡ states_played game l.fn.session 1 (map state_of l.states)
