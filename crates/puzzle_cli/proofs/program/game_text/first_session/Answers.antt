use Rattle.std.proofs.lemmas.Result.{IfErr-weaker}
use Rattle.puzzle_cli.proofs.program.game_text.first_session.Goals as goal

pub returns-in-Some-clause-refused : goal.returns-in-Some-clause-refused
returns-in-Some-clause-refused g c =
    rw c.in-Some.is (IfErr-weaker c.begin.result _ _ (λ fault told. rw c.as_bytes.ensures.value at told) c.begin.ensures.id_refused)
