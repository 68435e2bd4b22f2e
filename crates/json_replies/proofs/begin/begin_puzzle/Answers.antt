use Rattle.std.proofs.Common.{Result, Ok, Err, Some, IfErr, refl, sym, ◌∙◌, ap, subst}
use Rattle.std.proofs.lemmas.Result.{err_from_is_err_and}
use Rattle.line_replies.specs.declared.machine.Response.{Response}
use Rattle.line_replies.specs.declared.reply.refusal.Refusal.{Refusal}
use Rattle.line_replies.specs.GameFacts.{facts_of}
use Rattle.line_replies.specs.NewSessions.{new_game}
use Rattle.line_replies.specs.Refusals.{start_refusal}
use Rattle.line_replies.specs.Replies.{AmpleGives, LineGives}
use Rattle.line_replies.specs.RunLaws.{described_line}
use Rattle.line_replies.specs.Texts.{text_bytes}
use Rattle.line_replies.proofs.DescribedReplies.{begins, described_may_lack}
use Rattle.json_replies.proofs.begin.begin_puzzle.Goals as goal

pub returns-in_err-begin_game-clause-why : goal.returns-in_err-begin_game-clause-why
returns-in_err-begin_game-clause-why g c =
    let f = facts_of g.P.Rules g.P.Game g.P.Draw in
    let line = described_line f c.args.params c.args.puzzle in
    let lacks = described_may_lack f g.met.P.Game.desc_canonical c.args.params c.args.puzzle c.requires.params c.requires.valid c.requires.size
    c.args.session.now in
    let (refusal, is, same) = err_from_is_err_and c.from_residual.result c.from_residual.ensures.1 in
    let memory = same ∙ ap start_refusal c.in_err-begin_game.ensures.why in
    subst (λ (r : Result Response Refusal). IfErr r (λ e. LineGives f c.args.session.now line (Err e))) (sym is)
    (subst (λ e. LineGives f c.args.session.now line (Err e)) (sym memory) lacks)

pub returns-clause-ok : goal.returns-clause-ok
returns-clause-ok g c =
    let f = facts_of g.P.Rules g.P.Game g.P.Draw in
    let old = c.args.session.now in
    let line = described_line f c.args.params c.args.puzzle in
    let game = new_game c.args.params c.args.puzzle in
    let ample = begins f g.met.P.Game.desc_canonical c.args.params c.args.puzzle c.requires.params c.requires.valid c.requires.size old in
    let told = subst (λ text. AmpleGives f old line (Ok (text, Some game))) (sym c.line.ensures) ample in
    (refl, subst (λ h. AmpleGives f old line (Ok (text_bytes c.line.result, Some h))) (sym c.in_ok-begin_game.ensures.ok) told)
