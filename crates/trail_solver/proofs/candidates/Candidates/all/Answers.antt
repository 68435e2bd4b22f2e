use Rattle.std.proofs.Common.{refl}
use Rattle.std.proofs.lemmas.List.Elements.{All-nil}
use Rattle.trail_solver.specs.Inner.Fields.{IsRemoval}
use Rattle.trail_solver.proofs.AgreeingSets.{agrees_at_start}
use Rattle.trail_solver.proofs.candidates.Candidates.all.Goals as goal

pub invariant_of-result : goal.invariant_of-result
invariant_of-result c =
    rw (c.up_to.ensures.value, c.new.ensures, ← c.get.ensures.value)
    (record {
      agrees = agrees_at_start c.get.result c.get.ensures.smallest c.get.ensures.largest;
      each = All-nil IsRemoval;
      count = refl;
    })
