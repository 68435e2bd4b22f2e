use Rattle.std.proofs.Common.{◌-◌, arith}
use Rattle.play_midend.proofs.Linking.{last_back, linked_back, with_one_less, moves_of-set}
use Rattle.play_midend.proofs.Viewing.{undone_viewed}
use Rattle.play_midend.proofs.session.Session.undo.Goals as goal

pub exchange-requires : goal.exchange-requires
exchange-requires g c =
    let s = c.self.inside in
    let p = g.P.Rules.puzzle s.puzzle in
    let linked = with_one_less p s.links.items s.past s.board c.self.invariant.1 (omega arith) in
    let last = last_back p s.links.items (s.past - 1) s.board c.index_mut.result.now linked c.index_mut.ensures.value in
    last.is_back.fits

pub invariant_of-self : goal.invariant_of-self
invariant_of-self g c =
    let s = c.self.inside in
    let p = g.P.Rules.puzzle s.puzzle in
    let linked = with_one_less p s.links.items s.past s.board c.self.invariant.1 (omega arith) in
    (c.self.invariant.0, linked_back p s.links.items (s.past - 1) s.board c.index_mut.result.now c.exchange.new.link c.exchange.new.board linked c.index_mut.ensures.value c.exchange.ensures.board c.exchange.ensures.made c.exchange.ensures.fits c.exchange.ensures.restores)

pub returns-clause-ok : goal.returns-clause-ok
returns-clause-ok g c =
    let s = c.self.inside in
    let moves = moves_of-set s.links.items (s.past - 1) c.index_mut.result.now c.exchange.new.link c.index_mut.ensures.value c.exchange.ensures.made in
    rw (← c.self.view_is) (undone_viewed s _ (omega arith) moves)
