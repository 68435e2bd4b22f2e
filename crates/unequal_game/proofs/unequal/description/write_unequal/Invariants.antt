use Rattle.std.proofs.Common.{◌≡◌, [], ◌∷◌, ◌++◌}
use Rattle.std.specs.List.{flat_map, range_with_len}
use Rattle.unequal_game.specs.UnequalText.{piece_text, piece_of}
use Rattle.byte_text.specs.Bytes.{comma}
use Rattle.unequal_game.proofs.unequal.description.write_unequal.Given as goal

abbrev pub invariant-loop-cell : goal.invariant-loop-cell
invariant-loop-cell l = l.text.items ≡ flat_map (λ k. piece_text (piece_of l.puzzle k) ++ comma ∷ []) (range_with_len 0 l.cell)
