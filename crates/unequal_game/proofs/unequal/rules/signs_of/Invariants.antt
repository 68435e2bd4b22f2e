use Rattle.unequal_game.specs.Unequal.{sign_towards, sign_in_grid}
use Rattle.line_steps.proofs.FilledLemmas.{IsFilledBy}
use Rattle.unequal_game.specs.declared.unequal.sign.Sign.TheVariants.{Absent}
use Rattle.unequal_game.proofs.unequal.rules.signs_of.Given as goal

abbrev pub invariant-loop-cell : goal.invariant-loop-cell
invariant-loop-cell l = IsFilledBy Absent 81 (sign_towards l.grid.size (sign_in_grid l.grid) l.direction) l.cell l.signs
