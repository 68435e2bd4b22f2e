use Rattle.std.proofs.Common.{sym, ◌∙◌, arith}
use Rattle.std.proofs.lemmas.Bool.{not-true}
use Rattle.trail_solver.proofs.SetPairs.{pairs_with_one}
use Rattle.trail_solver.proofs.candidates.Candidates.remove.Goals as goal

pub returns-clause-trail : goal.returns-clause-trail
returns-clause-trail c =
    c.remove_all.ensures.trail
    ∙ pairs_with_one c.args.self.now.trail c.args.cell c.args.value c.one.result (not-true _ (sym c.may.ensures ∙ c.if-not-may.false))
    (omega (arith, c.requires.high, c.size-size.ensures.valid.largest)) c.one.ensures.members
