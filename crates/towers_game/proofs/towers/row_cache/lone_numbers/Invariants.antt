use Rattle.std.proofs.Common.{◌≡◌, ◌↔◌, ℕ, true}
use Rattle.number_sets.specs.Sets.{has_number}
use Rattle.towers_game.specs.Inner.RowCache.{IsLone}
use Rattle.towers_game.proofs.towers.row_cache.lone_numbers.Given as goal

abbrev pub invariant-loop-k : goal.invariant-loop-k
invariant-loop-k l = (n : ℕ) → (has_number l.lone n ≡ true) ↔ IsLone l.k l.sets n
