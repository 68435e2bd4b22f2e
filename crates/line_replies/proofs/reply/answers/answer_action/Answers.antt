use Rattle.std.proofs.Common.{inl}
use Rattle.std.proofs.lemmas.Result.{err_from_is_err_and}
use Rattle.line_replies.specs.GameFacts.{facts_of}
use Rattle.line_replies.proofs.FilledIn.{solve_fills_in}
use Rattle.line_replies.proofs.ActionReplies.{still_other, refused_said, solve_refused}
use Rattle.line_replies.proofs.reply.answers.answer_action.Goals as goal

pub solve_reply-requires : goal.solve_reply-requires
solve_reply-requires g c =
    solve_fills_in g.P.Rules.puzzle c.args.session.now c.board-board.ensures.valid c.carry_out-answer.new.session c.carry_out-answer.result
    (rw c.in-Solve.is at c.carry_out-answer.ensures.answered)

pub returns-in_err-answer-in_default : goal.returns-in_err-answer-in_default
returns-in_err-answer-in_default g c =
    let f = facts_of g.P.Rules g.P.Game g.P.Draw in
    let (refusal, is, same) = err_from_is_err_and c.from_residual.result c.from_residual.ensures.1 in
    record {
      ok = rw is tt;
      err = rw is c.in_err-answer-in_default.ensures.err;
      why = rw is (refused_said f c.args.session.now c.carry_out-answer.new.session _ c.in_err-answer-in_default.field-0.0 refusal same
          (inl (still_other c.args.action c.in_default.not-Solve)) c.in_err-answer-in_default.ensures.answered);
    }

pub returns-in-Solve-clause-why : goal.returns-in-Solve-clause-why
returns-in-Solve-clause-why g c =
    let f = facts_of g.P.Rules g.P.Game g.P.Draw in
    solve_refused f c.args.session.now c.carry_out-answer.new.session _ c.carry_out-answer.result c.solve_reply.result c.carry_out-answer.ensures.answered
    c.solve_reply.ensures.err
