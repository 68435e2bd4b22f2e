use Rattle.std.proofs.Common.{ℕ, List, replicate, sym, subst}
use Rattle.towers_game.specs.declared.towers.row_cache.TheConstants.{SLOTS}
use Rattle.towers_game.specs.Inner.RowCache.{AreCached}
use Rattle.towers_game.proofs.RowsNoted.{none_known}
use Rattle.towers_game.proofs.towers.row_cache.RowCacheDefault.default.Goals as goal

pub invariant_of-result : goal.invariant_of-result
invariant_of-result c =
    let widths : List ℕ = replicate SLOTS 0 in
    let Rows : ℕ → List (List ℕ) = λ n. replicate SLOTS (replicate 9 n) in
    subst (λ (n : ℕ). AreCached widths widths (Rows n) (Rows n)) (sym c.empty-nothing.ensures) none_known
