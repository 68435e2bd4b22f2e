use Rattle.std.proofs.Common.{◌≡◌, ◌++◌, replicate}
use Rattle.byte_text.specs.Bytes.{letter_z}
use Rattle.towers_game.proofs.towers.description.push_blanks.Given as goal

abbrev pub invariant-loop-written : goal.invariant-loop-written
invariant-loop-written l = l.text.items ≡ l.initial.text.items ++ replicate l._written letter_z
