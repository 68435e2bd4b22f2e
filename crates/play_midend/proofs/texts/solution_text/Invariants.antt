use Rattle.std.proofs.Common.{◌≡◌, ◌+◌, ◌∷◌, map, take}
use Rattle.play_midend.proofs.texts.solution_text.Given as goal
use Rattle.byte_text.specs.Bytes.{capital_s}

abbrev pub invariant-loop-cell : goal.invariant-loop-cell
invariant-loop-cell l = l.text.items ≡ capital_s ∷ map (λ n. 48 + n) (take l.cell l.grid.numbers)
