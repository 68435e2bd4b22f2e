use Rattle.std.proofs.Common.{◌≡◌, ℕ, ◌<◌, Bool, length}
use Rattle.line_steps.specs.Reasons.{IsByLine}
use Rattle.line_steps.specs.Chains.{LeadsTo}
use Rattle.line_steps.specs.Inner.LineLooks.{AreMore, waiting_for}
use Rattle.line_steps.specs.Inner.Groups.{IsGroupQuiet}
use Rattle.line_steps.specs.declared.grade.Grade.TheVariants.{Hard}
use Rattle.line_steps.proofs.steps.group_passes.look_for_groups.Given as goal

abbrev pub invariant-loop-line : goal.invariant-loop-line
invariant-loop-line l =
    LeadsTo (IsByLine l.fn.candidates.size) Hard l.fn.candidates l.candidates
    × ((what : Bool) → AreMore (waiting_for what l.fn.waiting) (waiting_for what l.waiting) l.fn.candidates l.candidates)
    × (length l.candidates.trail ≡ length l.fn.candidates.trail → (j : ℕ) → j < l.line → IsGroupQuiet j l.fn.candidates)
