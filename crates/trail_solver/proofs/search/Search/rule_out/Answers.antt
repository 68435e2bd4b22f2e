use Rattle.std.proofs.Common.{sym, subst}
use Rattle.latin_board.specs.Squares.{GridValue}
use Rattle.trail_solver.specs.Inner.Among.{IsAmongAt}
use Rattle.trail_solver.specs.Inner.Searches.{SearchValue, NarrowsSearch}
use Rattle.trail_solver.proofs.ShavingSteps.{shaves_then, shaves_refuted}
use Rattle.trail_solver.proofs.search.Search.rule_out.Goals as goal

pub returns : goal.returns
returns g c =
    let puzzle = g.P.Rules.puzzle in
    let inside = c.self.inside in
    let start : SearchValue _ = record { rules = inside.rules; candidates = inside.candidates } in
    let next : SearchValue _ = record { rules = inside.rules; candidates = c.take_away.new.candidates } in
    let new = c.narrow_after.new.self in
    let P : SearchValue _ → Type 0 = λ s. (h : GridValue) → IsAmongAt (puzzle s.rules) s.candidates c.args.cell c.args.value h → ⊥ in
    let Q : SearchValue _ → Type 0 = λ s. NarrowsSearch puzzle s new c.narrow_after.result in
    let gone = shaves_refuted puzzle start next.candidates c.args.cell c.args.value (record { size = c.take_away.ensures.size; trail = c.take_away.ensures.trail })
    (subst P (sym c.self.view_is) c.requires.refuted) in
    let narrowed : Q next = record { further = c.narrow_after.ensures.further; same = c.narrow_after.ensures.same; refutes = c.narrow_after.ensures.refutes } in
    subst Q c.self.view_is (shaves_then puzzle start next new c.narrow_after.result gone narrowed)
