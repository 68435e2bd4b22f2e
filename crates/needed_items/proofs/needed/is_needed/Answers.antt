use Rattle.std.proofs.lemmas.Bool.{OnFalse_at, OnFalse_from, OnTrue_at, OnTrue_from}
use Rattle.trail_solver.specs.Solutions.{HasSeveralSolutions, IsOnlySolution}
use Rattle.needed_items.specs.Needed.{all_but}
use Rattle.needed_items.proofs.SecondSolutions.{second_denied, none_denied, only_of_not_two}
use Rattle.needed_items.proofs.needed.is_needed.Goals as goal

pub returns-clause-several : goal.returns-clause-several
returns-clause-several g c =
    let puzzle = g.P.Rules.puzzle in
    let without = puzzle (g.P.Rules.cut c.args.puzzle.now (all_but c.args.item)) in
    OnTrue_from c.has_other.result (HasSeveralSolutions without) (λ yes.
    second_denied (puzzle c.args.puzzle.now) without (puzzle c.deny_item-denied.result) c.all-candidates.result
    c.deny_item-denied.new.candidates c.args.grid.now c.deny_item-denied.ensures.denies
    (g.met.P.Rules.cut_solved c.args.puzzle.now (all_but c.args.item) c.args.grid.now c.size.ensures.valid c.requires.only.solves)
    (OnTrue_at yes c.has_other.ensures.other))

pub returns-clause-only : goal.returns-clause-only
returns-clause-only g c =
    let puzzle = g.P.Rules.puzzle in
    let without = puzzle (g.P.Rules.cut c.args.puzzle.now (all_but c.args.item)) in
    let solves = g.met.P.Rules.cut_solved c.args.puzzle.now (all_but c.args.item) c.args.grid.now c.size.ensures.valid
    c.requires.only.solves in
    OnFalse_from c.has_other.result (IsOnlySolution without c.args.grid.now) (λ no.
    only_of_not_two without c.args.grid.now solves
    (none_denied (puzzle c.args.puzzle.now) without (puzzle c.deny_item-denied.result) c.all-candidates.result
    c.deny_item-denied.new.candidates c.args.grid.now c.deny_item-denied.ensures.denies c.all-candidates.ensures.trail
    c.requires.only (OnFalse_at no c.has_other.ensures.none)))
