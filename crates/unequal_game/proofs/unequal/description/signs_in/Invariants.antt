use Rattle.std.proofs.Common.{◌≡◌, false}
use Rattle.std.specs.List.{list_any, range_with_len}
use Rattle.unequal_game.specs.Inner.UnequalPieces.{texts_of, contradicts_towards}
use Rattle.unequal_game.specs.Unequal.{sign_towards}
use Rattle.unequal_game.specs.UnequalText.{sign_said}
use Rattle.line_steps.proofs.FilledLemmas.{IsFilledBy}
use Rattle.unequal_game.specs.declared.unequal.sign.Sign.TheVariants.{Absent}
use Rattle.unequal_game.proofs.unequal.description.signs_in.Given as goal

abbrev pub invariant-loop-cell : goal.invariant-loop-cell
invariant-loop-cell l = record {
  filled : IsFilledBy Absent 81 (sign_towards l.size (sign_said l.size (texts_of l.pieces)) l.direction) l.cell l.signs;
  agree : list_any (contradicts_towards l.size (texts_of l.pieces) l.direction) (range_with_len 0 l.cell) ≡ false;
}
