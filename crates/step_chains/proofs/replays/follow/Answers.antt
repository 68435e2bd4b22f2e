use Rattle.line_steps.specs.Laws.Less.{all_less}
use Rattle.line_steps.specs.Reasons.{StruckBy}
use Rattle.std.proofs.Common.{◌≡◌, ◌+◌, [], ◌∷◌, ◌++◌, take, sym, ap, ◌∙◌}
use Rattle.std.proofs.lemmas.List.{take_more}
use Rattle.trail_solver.proofs.Earlier.{earlier_trans}
use Rattle.step_chains.specs.declared.chain.Step.{Step}
use Rattle.step_chains.specs.ChainValues.{steps_of}
use Rattle.step_chains.proofs.Pieces.{first_chain}
use Rattle.step_chains.proofs.Followed.{follows_on, breaks_here, leads_known}
use Rattle.step_chains.proofs.Live.{alike_on, taken_earlier}
use Rattle.step_chains.proofs.replays.follow.Goals as goal

pub returns-then-not-passes-clause-breaks : goal.returns-then-not-passes-clause-breaks
returns-then-not-passes-clause-breaks g c = λ chain.
    let Struck = StruckBy g.P.Rules.puzzle g.P.Steps.own c.args.p.now in
    let steps = c.args.steps.now in
    let start = c.args.candidates.now in
    let i = c.loop-step.step-index in
    let s = c.step-item.result in
    let more : take (i + 1) steps ≡ take i steps ++ s ∷ [] =
    take_more steps i s c.loop-step-test.true ∙ ap (λ (x : Step). take i steps ++ x ∷ []) (sym c.step-item.is) in
    let (size, alike, earlier, follows) = c.loop-step.invariant in
    breaks_here Struck (all_less (g.P.Rules.puzzle c.args.p.now) (g.P.Steps.own c.args.p.now) (g.met.P.Steps.own_less c.args.p.now)) c.args.grade start c.loop-step.candidates steps i s more
    (leads_known Struck c.args.grade start c.loop-step.candidates (steps_of (take i steps)) (first_chain Struck c.args.grade start steps i chain) size alike)
    c.if-not-passes.ensures.none chain

pub loop-step-preserved : goal.loop-step-preserved
loop-step-preserved g c =
    let Struck = StruckBy g.P.Rules.puzzle g.P.Steps.own c.args.p.now in
    let steps = c.args.steps.now in
    let start = c.args.candidates.now in
    let i = c.loop-step.step-index in
    let s = c.step-item.result in
    let more : take (i + 1) steps ≡ take i steps ++ s ∷ [] =
    take_more steps i s c.loop-step-test.true ∙ ap (λ (x : Step). take i steps ++ x ∷ []) (sym c.step-item.is) in
    let (size, alike, earlier, follows) = c.loop-step.invariant in (
      c.take.ensures.size ∙ size,
      alike_on start c.loop-step.candidates c.take.new.candidates steps i s more size alike c.take.ensures,
      earlier_trans start c.loop-step.candidates c.take.new.candidates earlier (taken_earlier c.loop-step.candidates c.take.new.candidates _ c.take.ensures),
      λ all.
          let before = leads_known Struck c.args.grade start c.loop-step.candidates (steps_of (take i steps)) (follows all) size alike in
          let now = follows_on Struck (all_less (g.P.Rules.puzzle c.args.p.now) (g.P.Steps.own c.args.p.now) (g.met.P.Steps.own_less c.args.p.now)) c.args.grade start c.loop-step.candidates
          c.take.new.candidates steps i s more before (c.if-not-passes.ensures.is all) c.take.ensures in
          (now.chain, now.allowed),
    )
