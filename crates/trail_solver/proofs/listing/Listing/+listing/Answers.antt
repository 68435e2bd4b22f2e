use Rattle.std.proofs.Common.{rules, ◌≡◌, ℕ, refl, ◌∙◌, arith}
use Rattle.std.proofs.lemmas.Bool.{OnFalse_at, OnTrue_at}
use Rattle.std.proofs.lemmas.Result.{on_ok_weaker}
use Rattle.trail_solver.specs.Inner.Among.{IsAmong, IsAmongAt}
use Rattle.trail_solver.specs.Inner.Searches.{SearchValue, IsFurther}
use Rattle.trail_solver.specs.Inner.Listed.{Lists}
use Rattle.trail_solver.proofs.SearchSteps.{further_trans}
use Rattle.trail_solver.proofs.ListedSolutions.{lists_same}
use Rattle.trail_solver.proofs.ListingSteps.{none_lists, value_lists_none, value_lists_more, value_lists_all}
use Rattle.trail_solver.proofs.listing.Listing.+listing.Goals as goal
use Rattle.trail_solver.proofs.listing.Listing.+listing.Goals.{list_guess-then-assume, list_guess-else-assume}

pub list-list_values-requires : goal.list-list_values-requires
list-list_values-requires g t c κs within =
    rw (OnTrue_at c.if-branch.true c.in_ok-list_only.ensures.several) (search rules)

pub list_values-loop-value-init : goal.list_values-loop-value-init
list_values-loop-value-init g t c =
    let now = c.args.self.now.search in
    let size : now.candidates.size ≡ (g.P.Rules.puzzle now.rules).size = rw (← c.self.view_is) c.self.invariant in
    record {
      search = refl;
      limit = refl;
      lists = value_lists_none (g.P.Rules.puzzle now.rules) now.candidates c.args.cell c.args.self.now.limit c.args.self.now.listed.items size c.requires.first.is_open.inside;
    }

pub list_values-loop-value-preserved : goal.list_values-loop-value-preserved
list_values-loop-value-preserved g t c =
    let puzzle = g.P.Rules.puzzle in
    let first = c.args.self.now in
    let now = first.search in
    let size : now.candidates.size ≡ (puzzle now.rules).size = rw (← c.self.view_is) c.self.invariant in
    let ys = c.loop-value.self.listed.items in
    let zs = c.list_guess.new.self.listed.items in
    let At : SearchValue _ → ℕ → Type 0 = λ s limit. Lists (IsAmongAt (puzzle s.rules) s.candidates c.args.cell c.loop-value.value) limit ys zs in
    let before = c.loop-value.invariant in
    let here : At now first.limit = rw (← before.search, ← before.limit) c.in_ok-list_guess.ensures.lists in
    record {
      search = c.list_guess.ensures.same ∙ before.search;
      limit = c.list_guess.ensures.limit ∙ before.limit;
      lists = value_lists_more (puzzle now.rules) now.candidates c.args.cell c.loop-value.value first.limit first.listed.items ys zs size c.requires.first before.lists here;
    }

pub list_values-returns-clause-lists : goal.list_values-returns-clause-lists
list_values-returns-clause-lists g t c =
    let first = c.args.self.now in
    let now = first.search in
    let size : now.candidates.size ≡ (g.P.Rules.puzzle now.rules).size = rw (← c.self.view_is) c.self.invariant in
    let width : c.get-width.result ≡ now.candidates.size = rw (← c.self.view_is) (c.get-width.ensures.value ∙ c.size.ensures.value) in
    value_lists_all (g.P.Rules.puzzle now.rules) now.candidates c.args.cell c.loop-value.value first.limit first.listed.items c.loop-value.self.listed.items size c.requires.first.is_open.inside (omega arith) c.loop-value.invariant.lists

pub list_guess-returns-clause-same : goal.list_guess-returns-clause-same
list_guess-returns-clause-same g t c =
    let old = c.args.self.now.search in
    let further : IsFurther old c.if-assume.self.search = elim c.if-assume.branch [
      | list_guess-then-assume w ↦ rw w.self-is (further_trans old c.assume.new.self w.list-done.new.self.search c.assume.ensures.further w.list-done.ensures.further)
      | list_guess-else-assume w ↦ rw w.self-is c.assume.ensures.further
    ] in
    c.go_back.ensures old further c.checkpoint-checkpoint.ensures

pub list_guess-returns-clause-lists : goal.list_guess-returns-clause-lists
list_guess-returns-clause-lists g t c =
    let first = c.args.self.now in
    let old = first.search in
    let new = c.assume.new.self in
    let At = IsAmongAt (g.P.Rules.puzzle old.rules) old.candidates c.args.cell c.args.value in
    let Among = IsAmong (g.P.Rules.puzzle new.rules) new.candidates in
    let same = c.assume.ensures.same in
    let xs = first.listed.items in
    elim c.if-assume.branch [
      | list_guess-then-assume w ↦ (let ys = w.list-done.new.self.listed.items in
          rw (w.done-is, w.self-is) (on_ok_weaker w.list-done.result (λ (l : Lists Among first.limit xs ys).
          lists_same Among At first.limit xs ys (λ h. (same h).1) (λ h. (same h).0) l) w.list-done.ensures.lists))
      | list_guess-else-assume w ↦ rw (w.done-is, w.self-is) (none_lists At first.limit xs (OnFalse_at w.if-assume.false c.assume.ensures.refutes))
    ]
