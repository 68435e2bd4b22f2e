use Rattle.std.proofs.Common.{◌≡◌, ℕ, ◌<◌, length, get_or, bit_and, w64}
use Rattle.std.specs.Int.{bit_not}
use Rattle.tower_lines.proofs.mask_sets.MaskSet.apart.Given as goal

abbrev pub invariant-loop-i : goal.invariant-loop-i
invariant-loop-i g l =
    (length l.rest ≡ g.row.W) × ((k : ℕ) → k < l.i → get_or l.rest k 0 ≡ bit_and (get_or l.words k 0) (bit_not w64 (get_or l.others k 0)))
