use Rattle.std.proofs.Common.{◌≡◌, map, take}
use Rattle.byte_text.specs.Bytes.{digit}
use Rattle.client.proofs.latin.game.digits_of.Given as goal

abbrev pub invariant-loop-cell : goal.invariant-loop-cell
invariant-loop-cell l = l.text.items ≡ map digit (take l.cell l.grid.numbers)
