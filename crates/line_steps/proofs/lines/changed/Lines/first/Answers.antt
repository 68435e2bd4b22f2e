use Rattle.std.proofs.lemmas.Nat.{one_shl}
use Rattle.number_sets.proofs.Members.{has_number-below}
use Rattle.line_steps.proofs.lines.changed.Lines.first.Goals as goal

pub returns : goal.returns
returns c = λ k. rw (one_shl c.args.count 32 c.requires) (has_number-below c.args.count k)
