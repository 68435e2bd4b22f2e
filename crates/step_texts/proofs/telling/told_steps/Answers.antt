use Rattle.line_steps.specs.Laws.Less.{all_less}
use Rattle.line_steps.specs.Reasons.{StruckBy}
use Rattle.std.proofs.Common.{◌≡◌, ◌-◌, List, [], ◌∷◌, take, drop, length, None, refl, sym, subst}
use Rattle.std.specs.Prelude.{slice_get}
use Rattle.std.proofs.lemmas.List.{take_rest}
use Rattle.step_chains.specs.declared.chain.Step.{Step}
use Rattle.step_texts.specs.Looks.{AreJoined, HasNoMore}
use Rattle.step_texts.proofs.LooksTold.{GoesOn, none_yet, headed, one_look, all_told}
use Rattle.step_texts.proofs.telling.told_steps.Goals as goal

pub loop-first-init : goal.loop-first-init
loop-first-init g c =
    let Struck = StruckBy g.P.Rules.puzzle g.P.Steps.own c.args.p.now in
    let w = (g.P.Rules.puzzle c.args.p.now).size in
    let copy = c.copied-candidates.ensures in
    subst (λ xs. GoesOn Struck w c.args.view.now c.copied-candidates.result c.args.steps.now c.args.steps.now xs)
    (sym c.new-told.ensures.items) (none_yet Struck w c.args.view.now c.copied-candidates.result c.args.steps.now copy.size copy.alike)

-- if there is no first step, there is no step
none_left : (steps : List Step) → slice_get steps 0 ≡ None → steps ≡ []
none_left [] none = refl
none_left (step ∷ steps) none = absurd (cc none)

pub returns : goal.returns
returns g c =
    all_told (StruckBy g.P.Rules.puzzle g.P.Steps.own c.args.p.now) (g.P.Rules.puzzle c.args.p.now).size c.args.view.now c.loop-first.candidates c.args.steps.now c.loop-first.rest.now
    c.loop-first.told.items (none_left c.loop-first.rest.now (cc (c.in_default.ensures.value, c.in_default.is, c.first.ensures.value))) c.loop-first.invariant

pub loop-first-preserved : goal.loop-first-preserved
loop-first-preserved g c =
    let Struck = StruckBy g.P.Rules.puzzle g.P.Steps.own c.args.p.now in
    let w = (g.P.Rules.puzzle c.args.p.now).size in
    let d = c.loop-first.candidates in
    let rest = c.loop-first.rest.now in
    let first = c.in-Some.first.now in
    let n = c.joined_steps-joined.result in
    let j = c.joined_steps-joined.ensures in
    let tail : take (length rest - 1) (drop 1 rest) ≡ drop 1 rest = take_rest rest 1 in
    one_look Struck (all_less (g.P.Rules.puzzle c.args.p.now) (g.P.Steps.own c.args.p.now) (g.met.P.Steps.own_less c.args.p.now)) w c.args.view.now d c.take_all.new.candidates c.args.steps.now rest c.split_at.result.0.now
    c.split_at.result.1.now first n c.loop-first.told.items c.push.new.self.items c.in_ok-told_step.field-0
    (headed rest first (cc (c.in-Some.is, c.in-Some.ensures.value, c.first.ensures.value)))
    (subst (λ xs. AreJoined Struck w d first (take n xs)) tail j.joined)
    (subst (λ xs. HasNoMore Struck w d first (take n xs) (drop n xs)) tail j.ends)
    c.in_ok-told_step.ensures
    c.split_at.ensures.front c.split_at.ensures.back (c.take_all.ensures.size, c.take_all.ensures.alike) c.in_ok-push.ensures.items c.loop-first.invariant
