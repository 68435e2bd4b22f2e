use Rattle.std.proofs.Common.{◌∙◌, subst}
use Rattle.latin_board.specs.Boards.{BoardValue}
use Rattle.play_midend.specs.Inner.Effects.{IsEffect}
use Rattle.play_midend.proofs.Playing.{allowed_viewed, linked_move, played_viewed}
use Rattle.play_midend.proofs.Viewing.{shown_viewed}
use Rattle.play_midend.proofs.session.Session.play.Goals as goal

pub change_for-requires-clause-within : goal.change_for-requires-clause-within
change_for-requires-clause-within g c =
    let s = c.self.inside in
    let p = g.P.Rules.puzzle s.puzzle in
    let effect = rw (← c.self.view_is) at c.in_ok-effect.ensures.effect in
    (subst (λ (b : BoardValue). IsEffect p b c.args.m c.in_ok-effect.effect) (shown_viewed p s c.self.invariant.1) effect).within

pub invariant_of-self-2 : goal.invariant_of-self-2
invariant_of-self-2 g c =
    let s = c.self.inside in
    let p = g.P.Rules.puzzle s.puzzle in
    let ok = rw (← c.self.view_is) at c.in_ok-effect.ensures.ok in
    let effect = rw (← c.self.view_is) at c.in_ok-effect.ensures.effect in
    let here = subst (λ (b : BoardValue). IsEffect p b c.args.m c.in_ok-effect.effect) (shown_viewed p s c.self.invariant.1) effect in
    let allowed = allowed_viewed p s c.args.m c.self.invariant.1 ok in
    let board = c.in_ok-change.ensures.board ∙ here.made in
    (c.self.invariant.0, rw c.in_ok-put.ensures.ok (linked_move p s c.args.m c.in_ok-change.change c.self.invariant.1 allowed c.in_ok-change.ensures.fits board))

pub returns-clause-ok : goal.returns-clause-ok
returns-clause-ok g c =
    let s = c.self.inside in
    let p = g.P.Rules.puzzle s.puzzle in
    let ok = rw (← c.self.view_is) at c.in_ok-effect.ensures.ok in
    rw (c.forward.ensures, ← c.self.view_is) (played_viewed p s c.put.new.links.items c.args.m c.in_ok-change.change ok c.in_ok-put.ensures.ok)
