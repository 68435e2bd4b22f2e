use Rattle.std.proofs.Common.{◌<◌, length, arith}
use Rattle.std.proofs.lemmas.List.{length-map}
use Rattle.play_midend.specs.declared.session.Link.{Link}
use Rattle.play_midend.proofs.Linking.{linked_ahead, moves_of-set}
use Rattle.play_midend.proofs.Viewing.{forward_viewed}
use Rattle.play_midend.proofs.session.Session.forward.Goals as goal

pub invariant_of-self : goal.invariant_of-self
invariant_of-self g c =
    let s = c.self.inside in
    let p = g.P.Rules.puzzle s.puzzle in
    let later = rw (← c.self.view_is) at c.requires in
    let inside : s.past < length s.links.items = omega (arith, later, length-map s.links.items (λ (r : Link). r.made)) in
    (c.self.invariant.0, linked_ahead p s.links.items s.past s.board c.index_mut.result.now c.exchange.new.link c.exchange.new.board c.self.invariant.1 inside c.index_mut.ensures.value c.exchange.ensures.board c.exchange.ensures.made c.exchange.ensures.fits c.exchange.ensures.restores)

pub returns : goal.returns
returns g c =
    let s = c.self.inside in
    let moves = moves_of-set s.links.items s.past c.index_mut.result.now c.exchange.new.link c.index_mut.ensures.value c.exchange.ensures.made in
    rw (← c.self.view_is) (forward_viewed s _ moves)
