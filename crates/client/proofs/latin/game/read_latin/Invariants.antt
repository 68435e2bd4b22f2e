use Rattle.std.proofs.Common.{◌≡◌, ◌*◌, length, take, drop}
use Rattle.client.specs.Latin.{numbers_in}
use Rattle.client.specs.LatinTexts.{read_onto}
use Rattle.client.proofs.latin.game.read_latin.Given as goal

abbrev pub invariant-loop-cell : goal.invariant-loop-cell
invariant-loop-cell l =
    (l.givens.size ≡ l.width) × (length l.givens.numbers ≡ length l.text) × (l.width * l.width ≡ length l.text)
    × (numbers_in l.width l.text ≡ read_onto (take l.cell l.givens.numbers) (numbers_in l.width (drop l.cell l.text)))
