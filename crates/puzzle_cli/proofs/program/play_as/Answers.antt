use Rattle.std.proofs.Common.{Err, inr, ap, ◌∙◌}
use Rattle.std.proofs.lemmas.Result.{err_from_is_err_and}
use Rattle.puzzle_cli.proofs.program.play_as.Goals as goal

-- src/program.rt: the text can't be saved
pub returns-in_err-save_file-clause-game : goal.returns-in_err-save_file-clause-game
returns-in_err-save_file-clause-game g c =
    let (fault, is, same) = err_from_is_err_and c.from_residual-in_err-save_file.result c.from_residual-in_err-save_file.ensures.1 in
    rw (is ∙ ap Err same) (inr (inr (_, _, _, c.in_ok-bytes.ensures.loaded, c.in_ok-text.ensures.played, c.in_err-save_file.ensures.why)))
