use Rattle.std.specs.Prelude.{◌≡◌, length}
use Rattle.safe_save.proofs.target.fresh_names.Given as goal

-- there are as many names as turns
abbrev pub invariant-loop : goal.invariant-loop
invariant-loop g l = length l.names.items ≡ l.counter
