use Rattle.std.proofs.Common.{Err, ap, inl}
use Rattle.std.specs.Option.{option_copied}
use Rattle.std.proofs.lemmas.Result.{err_from_is_err_and}
use Rattle.line_replies.proofs.CommandLaws.{goes_on}
use Rattle.line_replies.proofs.reply.answers.execute.Goals as goal

pub returns-in_err-read_command-clause-goes_on : goal.returns-in_err-read_command-clause-goes_on
returns-in_err-read_command-clause-goes_on g c =
    let e = err_from_is_err_and c.from_residual.result c.from_residual.ensures.1 in
    let fault = c.in_err-read_command.field-0.0 in
    rw e.1 (goes_on (option_copied c.args.line) (Err fault) c.in_err-read_command.ensures.read (λ same. cc))

pub returns-in_err-read_command-clause-why : goal.returns-in_err-read_command-clause-why
returns-in_err-read_command-clause-why g c =
    let (refusal, is, same) = err_from_is_err_and c.from_residual.result c.from_residual.ensures.1 in
    rw is (Err c.in_err-read_command.field-0.0, c.in_err-read_command.ensures.read, inl (ap Err same))
