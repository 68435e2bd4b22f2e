use Rattle.std.proofs.lemmas.Nat.{one_shl}
use Rattle.number_sets.proofs.Members.{has_number-flip}
use Rattle.latin_board.proofs.done_marks.DoneMarks.flip.Goals as goal

pub returns-clause-members : goal.returns-clause-members
returns-clause-members c = λ other.
    rw (one_shl c.args.place 64 c.requires, ← c.self.view_is) (has_number-flip _ _ other)
