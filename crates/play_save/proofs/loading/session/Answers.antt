-- The position isn't after the last state, so the session can go back to it.
use Rattle.std.proofs.Common.{length, map, ap, arith}
use Rattle.play_save.specs.SaveTexts.{saves_of}
use Rattle.play_save.specs.Inner.Taking.{state_of}
use Rattle.play_save.proofs.StatesPlayed.{position_played}
use Rattle.play_save.proofs.loading.session.Goals as goal

pub go_back-requires-clause-inside : goal.go_back-requires-clause-inside
go_back-requires-clause-inside g c =
    let game = saves_of g.P.Rules g.P.Game in
    let inside = c.requires.inside c.in_ok-position.position (rw c.count.ensures at c.in_ok-position.ensures.ok_part) in
    let states = map state_of c.deref.result.now in
    let last = position_played game c.in_ok-session.session c.play_states.new.session 1 states c.in_ok-play_states.ensures in
    let items = c.deref.ensures.value in
    let first = ap (λ h. h.position) c.in_ok-session.ensures.ok in
    omega (arith, last, first, inside.1, ap (λ xs. length (map state_of xs)) items)
