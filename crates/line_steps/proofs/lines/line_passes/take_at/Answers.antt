use Rattle.std.proofs.Common.{ℕ, List, ◌++◌, refl, sym, ap, ◌∙◌, subst, append-nil}
use Rattle.trail_solver.proofs.SetPairs.{pairs_of_none}
use Rattle.line_steps.specs.Takes.{Strikes}
use Rattle.line_steps.proofs.Takes.{strikes_whole, struck_moved}
use Rattle.line_steps.proofs.TakenLines.{changed_one}
use Rattle.line_steps.proofs.lines.line_passes.take_at.Goals as goal

pub returns-then-is_empty-clause-strikes : goal.returns-then-is_empty-clause-strikes
returns-then-is_empty-clause-strikes c =
    let a = c.args.candidates.now in
    strikes_whole a a c.args.cell c.args.values c.size-size.ensures.valid.largest c.requires.left refl
    (sym (ap (λ (ps : List (ℕ × ℕ)). a.trail ++ ps) (pairs_of_none c.args.cell c.args.values c.if-is_empty.ensures.members) ∙ append-nil a.trail))

pub returns-clause-changed : goal.returns-clause-changed
returns-clause-changed c = λ line here.
    let a = c.args.candidates.now in
    let b = c.remove_all.new.self in
    let small = c.size-size.ensures.valid.largest in
    let strikes = strikes_whole a b c.args.cell c.args.values small c.requires.left c.remove_all.ensures.size c.remove_all.ensures.trail in
    changed_one line c.one.result c.args.place c.args.values a b c.requires.place c.one.ensures.members
    (subst (λ (n : ℕ). Strikes a b n c.args.values) here strikes)
    (struck_moved a b c.args.cell c.args.values small c.requires.left c.remove_all.ensures.trail c.if-is_empty.ensures.members)
