use Rattle.std.proofs.Common.{◌∙◌}
use Rattle.std.proofs.lemmas.Bool.{OnFalse_at}
use Rattle.trail_solver.specs.Inner.Among.{IsAmong, IsAmongAt}
use Rattle.trail_solver.proofs.Runs.{through_all}
use Rattle.trail_solver.proofs.SearchSteps.{rest_none, dead_none, under_way_narrowed, under_way_branched}
use Rattle.trail_solver.proofs.search.Search.+search.Goals as goal

pub run-returns-in-Dead-clause-adds : goal.run-returns-in-Dead-clause-adds
run-returns-in-Dead-clause-adds g t c =
    let puzzle = g.P.Rules.puzzle in
    let start = c.args.self.now in
    let now = c.loop-limit.self in
    rest_none (IsAmong (puzzle start.rules) start.candidates) c.args.found.now (IsAmong (puzzle now.rules) now.candidates) c.loop-limit.found c.loop-limit.invariant.rest
    (rw (← c.self.view_is) (dead_none (puzzle c.self.inside.rules) c.self.inside.candidates c.in-Dead.ensures.0 c.self.invariant c.in-Dead.ensures.1))

pub run-returns-then-not-go_on_after : goal.run-returns-then-not-go_on_after
run-returns-then-not-go_on_after g t c =
    let puzzle = g.P.Rules.puzzle in
    let start = c.args.self.now in
    let inside = c.self-in-Branch.inside in
    let next = c.take_away.new.candidates in
    let more = c.guess.new.found in
    let At = IsAmongAt (puzzle c.loop-limit.self.rules) c.loop-limit.self.candidates c.in-Branch.cell c.in-Branch.value in
    let adds = through_all At c.args.limit c.guess.result c.loop-limit.found more c.if-not-guess.false c.guess.ensures.adds in
    let left = under_way_branched puzzle start c.loop-limit.self (record { rules = inside.rules; candidates = inside.candidates }) next c.args.found.now c.loop-limit.found more c.in-Branch.cell c.in-Branch.value c.loop-limit.invariant adds (c.self-in-Branch.view_is ∙ c.guess.ensures.same)
    (record { size = c.take_away.ensures.size; trail = c.take_away.ensures.trail }) in
    let narrowed = under_way_narrowed puzzle start (record { rules = inside.rules; candidates = next }) c.go_on_after.new.self c.args.found.now more left c.go_on_after.ensures.further c.go_on_after.ensures.same in
    record {
      further = narrowed.further;
      adds = rest_none (IsAmong (puzzle start.rules) start.candidates) c.args.found.now (IsAmong (puzzle inside.rules) next) more left.rest
          (OnFalse_at c.if-not-go_on_after.true c.go_on_after.ensures.refutes);
    }

pub run-loop-limit-preserved : goal.run-loop-limit-preserved
run-loop-limit-preserved g t c =
    let puzzle = g.P.Rules.puzzle in
    let start = c.args.self.now in
    let inside = c.self-in-Branch.inside in
    let next = c.take_away.new.candidates in
    let more = c.guess.new.found in
    let At = IsAmongAt (puzzle c.loop-limit.self.rules) c.loop-limit.self.candidates c.in-Branch.cell c.in-Branch.value in
    let adds = through_all At c.args.limit c.guess.result c.loop-limit.found more c.if-not-guess.false c.guess.ensures.adds in
    let left = under_way_branched puzzle start c.loop-limit.self (record { rules = inside.rules; candidates = inside.candidates }) next c.args.found.now c.loop-limit.found more c.in-Branch.cell c.in-Branch.value c.loop-limit.invariant adds (c.self-in-Branch.view_is ∙ c.guess.ensures.same)
    (record { size = c.take_away.ensures.size; trail = c.take_away.ensures.trail }) in
    under_way_narrowed puzzle start (record { rules = inside.rules; candidates = next }) c.go_on_after.new.self c.args.found.now more left c.go_on_after.ensures.further c.go_on_after.ensures.same
