use Rattle.std.proofs.Common.{◌∙◌, Err, refl, ap}
use Rattle.std.proofs.lemmas.Result.{err_from_is_err_and}
use Rattle.play_midend.specs.Histories.{played, restarted, undone, redone}
use Rattle.play_midend.specs.Laws
use Rattle.play_midend.specs.Laws.{FromStart}
use Rattle.line_replies.specs.declared.command.Action.TheVariants.{Play, Undo, Redo, Restart}
use Rattle.line_replies.proofs.ActionReplies.{answered, unread_answered, solve_answered}
use Rattle.line_replies.proofs.reply.answers.carry_out.Goals as goal

pub returns-in_err-read_move-in-Play-clause-answered : goal.returns-in_err-read_move-in-Play-clause-answered
returns-in_err-read_move-in-Play-clause-answered g c =
    let h = c.args.session.now in
    let (fault, is, same) = err_from_is_err_and c.from_residual.result c.from_residual.ensures.1 in
    rw c.in-Play.is
    (unread_answered (g.P.Rules.puzzle h.puzzle) h h c.in-Play.text.now c.from_residual.result c.in_err-read_move-in-Play.field-0.0
    (is ∙ ap Err same) (λ m spelled. let apart = c.in_err-read_move-in-Play.ensures.only m spelled in cc)
    c.in_err-read_move-in-Play.ensures.fault refl)

pub returns-in_ok-read_move-in-Play-clause-answered : goal.returns-in_ok-read_move-in-Play-clause-answered
returns-in_ok-read_move-in-Play-clause-answered g c =
    let h = c.args.session.now in
    let p = g.P.Rules.puzzle h.puzzle in
    let m = c.in_ok-read_move-in-Play.field-0 in
    rw c.in-Play.is
    (answered p h c.play.new.self (Play c.in-Play.text.now) (Laws.Play m) (played p h m) c.play.result
    (m, c.in_ok-read_move-in-Play.ensures.found, refl) refl c.play.ensures.ok c.play.ensures.err c.play.ensures.why)

pub returns-in-Undo-clause-answered : goal.returns-in-Undo-clause-answered
returns-in-Undo-clause-answered g c =
    let h = c.args.session.now in
    rw c.in-Undo.is
    (answered (g.P.Rules.puzzle h.puzzle) h c.undo.new.self Undo Laws.Undo (undone h) c.undo.result
    refl refl c.undo.ensures.ok c.undo.ensures.err c.undo.ensures.why)

pub returns-in-Redo-clause-answered : goal.returns-in-Redo-clause-answered
returns-in-Redo-clause-answered g c =
    let h = c.args.session.now in
    rw c.in-Redo.is
    (answered (g.P.Rules.puzzle h.puzzle) h c.redo.new.self Redo Laws.Redo (redone h) c.redo.result
    refl refl c.redo.ensures.ok c.redo.ensures.err c.redo.ensures.why)

pub returns-in-Restart-clause-answered : goal.returns-in-Restart-clause-answered
returns-in-Restart-clause-answered g c =
    let h = c.args.session.now in
    rw c.in-Restart.is
    (answered (g.P.Rules.puzzle h.puzzle) h c.restart.new.self Restart FromStart (restarted h) c.restart.result
    refl refl c.restart.ensures.ok c.restart.ensures.err c.restart.ensures.why)

pub returns-in-Solve-clause-answered : goal.returns-in-Solve-clause-answered
returns-in-Solve-clause-answered g c =
    let h = c.args.session.now in
    rw c.in-Solve.is
    (solve_answered (g.P.Rules.puzzle h.puzzle) h c.solve.new.self c.solve.result
    c.solve.ensures.ok c.solve.ensures.err c.solve.ensures.why)
