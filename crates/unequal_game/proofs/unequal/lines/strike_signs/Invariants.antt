use Rattle.std.proofs.Common.{◌≡◌, ℕ, ◌<◌, ◌+◌}
use Rattle.latin_board.specs.Lines.{line_cell}
use Rattle.unequal_game.specs.UnequalReasons.{IsUnequalStruckBy}
use Rattle.line_steps.specs.Chains.{LeadsTo}
use Rattle.line_steps.specs.Along.{LosesAt, StaysOn}
use Rattle.unequal_game.specs.Inner.SignLooks.{IsSignQuiet}
use Rattle.line_steps.specs.declared.grade.Grade.TheVariants.{Easy}
use Rattle.unequal_game.proofs.unequal.lines.strike_signs.Given as goal

abbrev pub invariant-loop-k : goal.invariant-loop-k
invariant-loop-k l =
    LeadsTo (IsUnequalStruckBy l.p) Easy l.fn.candidates l.candidates × LosesAt l.line l.changed l.fn.candidates l.candidates
    × (StaysOn l.line l.fn.candidates l.candidates → (j : ℕ) → j < l.k
    → IsSignQuiet l.p (line_cell l.fn.candidates.size l.line j) (line_cell l.fn.candidates.size l.line (j + 1)) l.candidates)
    × (l.cell ≡ line_cell l.fn.candidates.size l.line l.k)
