use Rattle.std.proofs.Common.{ℕ, ◌-◌, ◌<◌, List, [], ◌∷◌, ◌++◌, length, lit<, sym, ap, ◌∙◌, subst, arith}
use Rattle.trail_solver.specs.declared.trail.Removal.{Removal}
use Rattle.trail_solver.specs.Candidates.{CandidatesValue}
use Rattle.trail_solver.specs.Inner.Fields.{AreFields, GivesBack, trail_of}
use Rattle.trail_solver.proofs.AgreeingSets.{squares_fit}
use Rattle.trail_solver.proofs.Removals.{IsParted, last_inside, room_for_last, none_stay, some_stay}
use Rattle.trail_solver.proofs.candidates.Candidates.undo.Goals as goal

pub flip-requires : goal.flip-requires
flip-requires c =
    let P : List Removal → Type 0 = λ rs. AreFields c.self.inside.size c.self.inside.sets rs c.self.inside.pairs in
    let inside = last_inside c.self.inside.size c.self.inside.sets c.pop.new.self.items c.in-Some.last c.self.inside.pairs (subst P c.in-Some.ensures.items c.self.invariant) in
    omega (arith, inside, squares_fit c.self.inside.size c.self.invariant.agrees.largest)

pub invariant_of-self : goal.invariant_of-self
invariant_of-self c =
    let P : List Removal → Type 0 = λ rs. AreFields c.self.inside.size c.self.inside.sets rs c.self.inside.pairs in
    let K : CandidatesValue → Type 0 = λ v. c.args.kept < length v.trail in
    let before = subst K (sym c.self.view_is) c.requires in
    let more : c.args.kept < c.self.inside.pairs = omega (arith, before, c.self.invariant.count) in
    let parted : IsParted c.in-Some.last.values c.upper_part-back.result c.difference-rest.result = record { upper = c.upper_part-back.ensures.part; left = record { is = c.difference-rest.ensures } } in
    let back = none_stay c.self.inside.size c.self.inside.sets c.flip.new.sets c.pop.new.self.items c.self.inside.pairs c.in-Some.last.cell c.in-Some.last.values c.upper_part-back.result c.difference-rest.result c.args.kept (subst P c.in-Some.ensures.items c.self.invariant) parted c.flip.ensures c.upper_part-back.ensures.few more c.if-is_empty.ensures.members in
    let Q : ℕ → Type 0 = λ n. AreFields c.self.inside.size c.flip.new.sets c.pop.new.self.items (c.self.inside.pairs - n) in
    subst Q (sym c.len.ensures) back.fields

pub returns-then-is_empty-clause-trail : goal.returns-then-is_empty-clause-trail
returns-then-is_empty-clause-trail c =
    let P : List Removal → Type 0 = λ rs. AreFields c.self.inside.size c.self.inside.sets rs c.self.inside.pairs in
    let K : CandidatesValue → Type 0 = λ v. c.args.kept < length v.trail in
    let before = subst K (sym c.self.view_is) c.requires in
    let more : c.args.kept < c.self.inside.pairs = omega (arith, before, c.self.invariant.count) in
    let parted : IsParted c.in-Some.last.values c.upper_part-back.result c.difference-rest.result = record { upper = c.upper_part-back.ensures.part; left = record { is = c.difference-rest.ensures } } in
    let back = none_stay c.self.inside.size c.self.inside.sets c.flip.new.sets c.pop.new.self.items c.self.inside.pairs c.in-Some.last.cell c.in-Some.last.values c.upper_part-back.result c.difference-rest.result c.args.kept (subst P c.in-Some.ensures.items c.self.invariant) parted c.flip.ensures c.upper_part-back.ensures.few more c.if-is_empty.ensures.members in
    let whole = ap (λ (rs : List Removal). trail_of rs) (sym c.in-Some.ensures.items) ∙ ap (λ (v : CandidatesValue). v.trail) c.self.view_is in
    let Q : List (ℕ × ℕ) → Type 0 = λ ps. GivesBack c.args.kept ps (trail_of c.pop.new.self.items) in
    subst Q whole back.back

pub push-requires : goal.push-requires
push-requires c =
    let P : List Removal → Type 0 = λ rs. AreFields c.self.inside.size c.self.inside.sets rs c.self.inside.pairs in
    (lit< tt, room_for_last c.self.inside.size c.self.inside.sets c.pop.new.self.items c.in-Some.last c.self.inside.pairs (subst P c.in-Some.ensures.items c.self.invariant))

pub invariant_of-self-in-Some : goal.invariant_of-self-in-Some
invariant_of-self-in-Some c =
    let P : List Removal → Type 0 = λ rs. AreFields c.self.inside.size c.self.inside.sets rs c.self.inside.pairs in
    let K : CandidatesValue → Type 0 = λ v. c.args.kept < length v.trail in
    let before = subst K (sym c.self.view_is) c.requires in
    let more : c.args.kept < c.self.inside.pairs = omega (arith, before, c.self.invariant.count) in
    let parted : IsParted c.in-Some.last.values c.upper_part-back.result c.difference-rest.result = record { upper = c.upper_part-back.ensures.part; left = record { is = c.difference-rest.ensures } } in
    let some = c.if-is_empty.ensures.members in
    let back = some_stay c.self.inside.size c.self.inside.sets c.flip.new.sets c.pop.new.self.items c.self.inside.pairs c.in-Some.last.cell c.in-Some.last.values c.upper_part-back.result c.difference-rest.result c.args.kept some.0 (subst P c.in-Some.ensures.items c.self.invariant) parted c.flip.ensures c.upper_part-back.ensures.few more some.1 in
    let last : Removal = record { cell = c.in-Some.last.cell; values = c.difference-rest.result } in
    let Q : ℕ → Type 0 = λ n. AreFields c.self.inside.size c.flip.new.sets (c.pop.new.self.items ++ last ∷ []) (c.self.inside.pairs - n) in
    let R : List Removal → Type 0 = λ rs. AreFields c.self.inside.size c.flip.new.sets rs (c.self.inside.pairs - c.len.result) in
    subst R (sym c.push.ensures.items) (subst Q (sym c.len.ensures) back.fields)

pub returns-else-is_empty-clause-trail : goal.returns-else-is_empty-clause-trail
returns-else-is_empty-clause-trail c =
    let P : List Removal → Type 0 = λ rs. AreFields c.self.inside.size c.self.inside.sets rs c.self.inside.pairs in
    let K : CandidatesValue → Type 0 = λ v. c.args.kept < length v.trail in
    let before = subst K (sym c.self.view_is) c.requires in
    let more : c.args.kept < c.self.inside.pairs = omega (arith, before, c.self.invariant.count) in
    let parted : IsParted c.in-Some.last.values c.upper_part-back.result c.difference-rest.result = record { upper = c.upper_part-back.ensures.part; left = record { is = c.difference-rest.ensures } } in
    let some = c.if-is_empty.ensures.members in
    let back = some_stay c.self.inside.size c.self.inside.sets c.flip.new.sets c.pop.new.self.items c.self.inside.pairs c.in-Some.last.cell c.in-Some.last.values c.upper_part-back.result c.difference-rest.result c.args.kept some.0 (subst P c.in-Some.ensures.items c.self.invariant) parted c.flip.ensures c.upper_part-back.ensures.few more some.1 in
    let last : Removal = record { cell = c.in-Some.last.cell; values = c.difference-rest.result } in
    let whole = ap (λ (rs : List Removal). trail_of rs) (sym c.in-Some.ensures.items) ∙ ap (λ (v : CandidatesValue). v.trail) c.self.view_is in
    let Q : List (ℕ × ℕ) → Type 0 = λ ps. GivesBack c.args.kept ps (trail_of (c.pop.new.self.items ++ last ∷ [])) in
    let R : List Removal → Type 0 = λ rs. GivesBack c.args.kept c.args.self.now.trail (trail_of rs) in
    subst R (sym c.push.ensures.items) (subst Q whole back.back)
