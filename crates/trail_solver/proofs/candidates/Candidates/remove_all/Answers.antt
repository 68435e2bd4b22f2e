use Rattle.std.proofs.Common.{ℕ, ◌+◌, List, [], ◌∷◌, ◌++◌, lit<, sym, ap, ◌∙◌, subst, arith, append-nil}
use Rattle.trail_solver.specs.declared.trail.Removal.{Removal}
use Rattle.trail_solver.specs.Candidates.{CandidatesValue}
use Rattle.trail_solver.specs.Inner.Fields.{AreFields}
use Rattle.trail_solver.proofs.SetPairs.{pairs_of_none}
use Rattle.trail_solver.proofs.Removals.{AreLeft, are_left, fields_struck, fields_fit, room_for_last}
use Rattle.trail_solver.proofs.candidates.Candidates.remove_all.Goals as goal

pub returns-then-is_empty-clause-trail : goal.returns-then-is_empty-clause-trail
returns-then-is_empty-clause-trail c =
    let trail = c.args.self.now.trail in
    sym (ap (λ (ps : List (ℕ × ℕ)). trail ++ ps) (pairs_of_none c.args.cell c.args.values c.if-is_empty.ensures.members) ∙ append-nil trail)

pub push-requires : goal.push-requires
push-requires c =
    let some = c.if-is_empty.ensures.members in
    let P : CandidatesValue → Type 0 = λ v. AreLeft v.size v.trail c.args.cell c.args.values in
    let left = subst P (sym c.self.view_is) (are_left c.args.self.now c.args.cell c.args.values some.0 c.requires some.1) in
    let struck = fields_struck c.self.inside.size c.self.inside.sets c.flip.new.sets c.self.inside.removals.items c.self.inside.pairs c.args.cell c.args.values c.self.invariant left c.flip.ensures in
    (lit< tt, room_for_last _ _ _ _ _ struck)

pub overflow_add-self : goal.overflow_add-self
overflow_add-self c =
    let some = c.if-is_empty.ensures.members in
    let P : CandidatesValue → Type 0 = λ v. AreLeft v.size v.trail c.args.cell c.args.values in
    let left = subst P (sym c.self.view_is) (are_left c.args.self.now c.args.cell c.args.values some.0 c.requires some.1) in
    let struck = fields_struck c.self.inside.size c.self.inside.sets c.flip.new.sets c.self.inside.removals.items c.self.inside.pairs c.args.cell c.args.values c.self.invariant left c.flip.ensures in
    omega (arith, fields_fit _ _ _ _ struck, c.len.ensures)

pub invariant_of-self : goal.invariant_of-self
invariant_of-self c =
    let some = c.if-is_empty.ensures.members in
    let P : CandidatesValue → Type 0 = λ v. AreLeft v.size v.trail c.args.cell c.args.values in
    let left = subst P (sym c.self.view_is) (are_left c.args.self.now c.args.cell c.args.values some.0 c.requires some.1) in
    let struck = fields_struck c.self.inside.size c.self.inside.sets c.flip.new.sets c.self.inside.removals.items c.self.inside.pairs c.args.cell c.args.values c.self.invariant left c.flip.ensures in
    let last : Removal = record { cell = c.args.cell; values = c.args.values } in
    let Q : ℕ → Type 0 = λ n. AreFields c.self.inside.size c.flip.new.sets (c.self.inside.removals.items ++ last ∷ []) (c.self.inside.pairs + n) in
    let R : List Removal → Type 0 = λ rs. AreFields c.self.inside.size c.flip.new.sets rs (c.self.inside.pairs + c.len.result) in
    subst R (sym c.push.ensures.items) (subst Q (sym c.len.ensures) struck)
