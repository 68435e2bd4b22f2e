use Rattle.std.proofs.Common.{ℕ, refl, sym, subst}
use Rattle.latin_board.specs.Lines.{line_cell}
use Rattle.latin_board.proofs.LatinLines.{line_cell_inside}
use Rattle.line_steps.specs.Reasons.{IsByLine}
use Rattle.line_steps.specs.Laws.Less.{line_less}
use Rattle.line_steps.proofs.Emptied.{emptied_by}
use Rattle.line_steps.proofs.Leads.{HasStruck, leads_taken}
use Rattle.line_steps.proofs.LinePasses.{rest_reason}
use Rattle.line_steps.proofs.Takes.{IsInRow}
use Rattle.line_steps.specs.declared.grade.Grade.TheVariants.{Latin}
use Rattle.line_steps.proofs.lines.latin.strike_dead.Goals as goal

pub returns-clause-leads : goal.returns-clause-leads
returns-clause-leads c =
    let old = c.args.candidates.now in
    let line = c.args.line in
    leads_taken (IsByLine old.size) (line_less old.size) Latin (IsInRow old.size line c.sets_at-row.result) old c.strike_row.new.candidates
    c.strike_row.ensures.takes (λ cell v pair h.
    let both = (c.sets_at-row.ensures h.0 v h.1).0 h.3 in
    subst (λ (n : ℕ). HasStruck (IsByLine old.size) Latin old n v) (sym h.2)
    (rest_reason old line h.0 v c.requires.line h.1 (c.requires.dead.struck h.0 v h.1 both.0 both.1)))

pub returns-clause-emptied : goal.returns-clause-emptied
returns-clause-emptied c =
    let old = c.args.candidates.now in
    let line = c.args.line in
    let dead = c.requires.dead in
    emptied_by (IsInRow old.size line c.sets_at-row.result) old c.strike_row.new.candidates (line_cell old.size line dead.place) c.strike_row.ensures.takes
    (line_cell_inside old.size line dead.place c.requires.line dead.low)
    (λ v left. (dead.place, dead.low, refl, (c.sets_at-row.ensures dead.place v dead.low).1 (dead.has, left)))
