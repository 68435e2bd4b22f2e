use Rattle.play_midend.proofs.FlagLaws.{session_board}
use Rattle.play_midend.proofs.Viewing.{valid_viewed}
use Rattle.play_midend.proofs.session.Session.board.Goals as goal

pub returns-clause-valid : goal.returns-clause-valid
returns-clause-valid g c =
    let s = c.self.inside in
    let p = g.P.Rules.puzzle s.puzzle in
    rw (← c.self.view_is) (valid_viewed p s c.self.invariant.0 c.self.invariant.1)

pub returns-clause-kept : goal.returns-clause-kept
returns-clause-kept g c =
    let s = c.self.inside in
    rw (← c.self.view_is) (session_board g.P.Rules.puzzle s c.self.invariant.0 c.self.invariant.1 c.size-size.ensures.valid)
