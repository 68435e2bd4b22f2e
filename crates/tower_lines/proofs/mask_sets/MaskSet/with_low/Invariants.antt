use Rattle.std.proofs.Common.{◌≡◌, ℕ, ◌*◌, ◌%◌, ◌^◌, ◌<◌, length, get_or, bit_and}
use Rattle.tower_lines.proofs.mask_sets.MaskSet.with_low.Given as goal

abbrev pub invariant-loop-i : goal.invariant-loop-i
invariant-loop-i g l =
    (length l.words ≡ g.row.W) × ((k : ℕ) → k < l.i → get_or l.words k 0 ≡ bit_and (get_or l.self-inside.words k 0 * 2 ^ l.shift % 2 ^ 64) l.having)
