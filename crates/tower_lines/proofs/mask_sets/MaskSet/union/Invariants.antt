use Rattle.std.proofs.Common.{◌≡◌, ℕ, ◌<◌, length, get_or, bit_or}
use Rattle.tower_lines.proofs.mask_sets.MaskSet.union.Given as goal

abbrev pub invariant-loop-i : goal.invariant-loop-i
invariant-loop-i g l =
    (length l.words ≡ g.row.W) × ((k : ℕ) → k < l.i → get_or l.words k 0 ≡ bit_or (get_or l.self-inside.words k 0) (get_or l.other-inside.words k 0))
