use Rattle.std.proofs.Common.{◌≡◌, ◌↔◌, ℕ, true}
use Rattle.number_sets.specs.Sets.{has_number}
use Rattle.towers_game.specs.Inner.RowSets.{IsBeyond}
use Rattle.towers_game.proofs.towers.row_sets.are_within.Given as goal

abbrev pub invariant-loop-k : goal.invariant-loop-k
invariant-loop-k l = (n : ℕ) → (has_number l.beyond n ≡ true) ↔ IsBeyond l.k l.some l.all n
