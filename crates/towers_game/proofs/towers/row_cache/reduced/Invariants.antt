use Rattle.std.proofs.Common.{◌≡◌, ℕ, ◌<◌, length, slice_index}
use Rattle.towers_game.specs.Inner.RowCache.{IsReducedSet}
use Rattle.towers_game.proofs.towers.row_cache.reduced.Given as goal

abbrev pub invariant-loop-k : goal.invariant-loop-k
invariant-loop-k l = record { count : length l.row ≡ 9; each : (j : ℕ) → j < l.k → IsReducedSet 9 l.sets j (slice_index l.row j) }
