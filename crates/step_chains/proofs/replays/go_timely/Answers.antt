use Rattle.std.proofs.Common.{◌≡◌, ◌+◌, [], ◌∷◌, ◌++◌, take, sym, ap, ◌∙◌}
use Rattle.std.proofs.lemmas.List.{take_more}
use Rattle.trail_solver.proofs.Earlier.{earlier_trans}
use Rattle.step_chains.specs.declared.chain.Step.{Step}
use Rattle.step_chains.proofs.Live.{timely_on, taken_earlier}
use Rattle.step_chains.proofs.replays.go_timely.Goals as goal

pub loop-step-preserved : goal.loop-step-preserved
loop-step-preserved c =
    let steps = c.args.steps.now in
    let i = c.loop-step.step-index in
    let s = c.step-item.result in
    let more : take (i + 1) steps ≡ take i steps ++ s ∷ [] =
    take_more steps i s c.loop-step-test.true ∙ ap (λ (x : Step). take i steps ++ x ∷ []) (sym c.step-item.is) in
    let before = c.loop-step.invariant in
    let now = timely_on c.args.candidates.now c.loop-step.candidates c.take.new.candidates steps i s more before.0 before.1 before.2
    c.if-not-is_timely.ensures c.take.ensures in (
      c.take.ensures.size ∙ before.0,
      now.0,
      now.1,
      earlier_trans c.args.candidates.now c.loop-step.candidates c.take.new.candidates before.3 (taken_earlier c.loop-step.candidates c.take.new.candidates _ c.take.ensures),
    )
