use Rattle.std.proofs.Common.{◌≡◌, ℕ, ◌<◌, length, get_or, bit_and}
use Rattle.tower_lines.proofs.mask_sets.MaskSet.common.Given as goal

abbrev pub invariant-loop-i : goal.invariant-loop-i
invariant-loop-i g l =
    (length l.both ≡ g.row.W) × ((k : ℕ) → k < l.i → get_or l.both k 0 ≡ bit_and (get_or l.words k 0) (get_or l.others k 0))
