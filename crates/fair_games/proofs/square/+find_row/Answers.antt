use Rattle.std.proofs.Common.{◌≡◌, ℕ, List, [], ◌∷◌, ◌++◌, get_or, true, sym, ◌∙◌, ap}
use Rattle.std.specs.List.{slice_get}
use Rattle.fair_games.specs.Squares.{is_free}
use Rattle.fair_games.proofs.RowSteps.{row_begins, row_found, passes_free, passes_taken, tries_none, without_last}
use Rattle.fair_games.proofs.square.+find_row.Goals as goal
use Rattle.fair_games.proofs.square.+find_row.Goals.{then-is_free+else-find_row, else-is_free}

pub returns-then-find_row-clause-found : goal.returns-then-find_row-clause-found
returns-then-find_row-clause-found t c =
    let g = c.args.grid.now in
    let column = get_or c.args.columns.now 0 0 in
    let n = get_or c.args.numbers.now c.loop-k.k 0 in
    let free : is_free g column c.args.chosen.now.items n ≡ true =
    ap (λ (xs : List ℕ). is_free g column xs n) (sym (c.as_slice.ensures.value ∙ c.loop-k.invariant.0)) ∙ sym c.is_free.ensures ∙ c.if-is_free.true in
    row_found g c.args.numbers.now c.args.columns.now c.args.chosen.now.items c.push.new.self.items c.find_row.new.chosen.items c.loop-k.k
    c.in-len1-up.len_at_least c.loop-k-test.true c.loop-k.invariant.1 free
    (c.push.ensures.items ∙ ap (λ (xs : List ℕ). xs ++ n ∷ []) c.loop-k.invariant.0) c.if-find_row.ensures.found

pub loop-k-preserved : goal.loop-k-preserved
loop-k-preserved t c =
    let g = c.args.grid.now in
    let column = get_or c.args.columns.now 0 0 in
    let n = get_or c.args.numbers.now c.loop-k.k 0 in
    let test : is_free g column c.args.chosen.now.items n ≡ c.is_free.result =
    ap (λ (xs : List ℕ). is_free g column xs n) (sym (c.as_slice.ensures.value ∙ c.loop-k.invariant.0)) ∙ sym c.is_free.ensures in
    elim c.if-is_free.branch [
      | then-is_free+else-find_row w ↦
          let more = w.push.ensures.items ∙ ap (λ (xs : List ℕ). xs ++ n ∷ []) c.loop-k.invariant.0 in
          let back = w.pop.ensures.rest ∙ without_last c.args.chosen.now.items w.find_row.new.chosen.items n (w.if-find_row.ensures.same ∙ more) in (
            ap (λ v. v.items) w.chosen-is ∙ back,
            c.loop-k.invariant.1 ∙ passes_free g c.args.numbers.now c.args.columns.now c.args.chosen.now.items w.push.new.self.items c.loop-k.k
                c.loop-k-test.true (test ∙ w.if-is_free.true) more w.if-find_row.ensures.none,
          )
      | else-is_free w ↦ (
        ap (λ v. v.items) w.chosen-is ∙ c.loop-k.invariant.0,
        c.loop-k.invariant.1 ∙ passes_taken g c.args.numbers.now c.args.columns.now c.args.chosen.now.items c.loop-k.k
            c.loop-k-test.true (test ∙ w.if-is_free.false),
      )
    ]

pub returns-clause-none : goal.returns-clause-none
returns-clause-none t c =
    ap (λ (ws : List (List ℕ)). slice_get ws 0)
    (row_begins c.args.grid.now c.args.numbers.now c.args.columns.now c.args.chosen.now.items c.in-len1-up.len_at_least ∙ c.loop-k.invariant.1
    ∙ tries_none _ c.args.numbers.now c.loop-k.k c.loop-k-test.false)
