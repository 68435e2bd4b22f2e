use Rattle.step_texts.specs.Told.{AreKnown}
use Rattle.step_texts.proofs.KnownSquares.{AreBefore}
use Rattle.step_texts.proofs.named_squares.known_squares.Given as goal

abbrev pub invariant-loop-cell : goal.invariant-loop-cell
invariant-loop-cell l = AreKnown l.candidates 0 l.known.items × AreBefore l.cell l.known.items
