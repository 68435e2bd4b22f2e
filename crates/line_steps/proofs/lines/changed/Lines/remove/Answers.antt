use Rattle.std.proofs.lemmas.Nat.{one_shl}
use Rattle.number_sets.proofs.Members.{has_number-taken}
use Rattle.line_steps.proofs.lines.changed.Lines.remove.Goals as goal

pub returns : goal.returns
returns c = λ k.
    rw (one_shl c.args.line 32 c.requires.inside, ← c.self.view_is)
    (has_number-taken c.self.inside.bits c.args.line k (rw (← c.self.view_is) at c.requires.has))
