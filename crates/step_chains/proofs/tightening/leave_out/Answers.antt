use Rattle.line_steps.specs.Laws.Less.{all_less}
use Rattle.line_steps.specs.Reasons.{StruckBy}
use Rattle.std.proofs.Common.{◌^◌, ◌<◌, ◌∙◌, ℕ, ◌≡◌, List, take, sym, ap, subst, arith}
use Rattle.std.proofs.lemmas.Bool.{both_ways}
use Rattle.std.proofs.lemmas.List.{take-set}
use Rattle.named_steps.specs.Chains.{Shows}
use Rattle.step_chains.specs.declared.chain.Step.{Step}
use Rattle.step_chains.specs.ChainValues.{steps_of}
use Rattle.step_chains.specs.Inner.Aims.{aim_goal}
use Rattle.step_chains.specs.Inner.Replays.{IsGradeChain}
use Rattle.step_chains.proofs.Pieces.{first_chain}
use Rattle.step_chains.proofs.Spare.{left_less, left_none, left_with, set_back}
use Rattle.step_chains.proofs.tightening.leave_out.Goals as goal

pub returns-then-not-has-clause-left : goal.returns-then-not-has-clause-left
returns-then-not-has-clause-left g c = λ shows.
    let s = c.index.result.now in
    let low : s.values < 2 ^ 16 = subst (λ (n : ℕ). n < 2 ^ 16) c.bits-bits.ensures (omega arith) in (
      shows,
      left_none (StruckBy g.P.Rules.puzzle g.P.Steps.own c.args.p.now) c.args.grade c.args.candidates.now c.args.index c.args.value c.args.steps.now.items s (aim_goal c.args.aim)
          c.requires.inside c.index.ensures low (sym c.has.ensures ∙ c.if-not-has.true),
    )

pub returns-then-not-shows_on-clause-left : goal.returns-then-not-shows_on-clause-left
returns-then-not-shows_on-clause-left g c = λ shows.
    let Struck = StruckBy g.P.Rules.puzzle g.P.Steps.own c.args.p.now in
    let start = c.args.candidates.now in
    let old = c.args.steps.now.items in
    let index = c.args.index in
    let s = c.index.result.now in
    let t = c.without-less.result in
    let set = c.as_slice.result.now in
    let low : s.values < 2 ^ 16 = subst (λ (n : ℕ). n < 2 ^ 16) c.bits-bits.ensures (omega arith) in
    let few : t.values < 2 ^ 16 = subst (λ (n : ℕ). n < 2 ^ 16) c.bits-less_bits.ensures (omega arith) in
    let front : take index set ≡ take index old = ap (take index) c.as_slice.ensures.value ∙ take-set old index t in
    let here = subst (λ (xs : List Step). IsGradeChain Struck c.args.grade start (steps_of xs)) (sym front)
    (first_chain Struck c.args.grade start old index (shows.chain, shows.allowed)) in (
      subst (λ (xs : List Step). Shows Struck c.args.grade start (steps_of xs) (aim_goal c.args.aim))
          (sym (set_back old index s t c.requires.inside c.index.ensures)) shows,
      left_with Struck (all_less (g.P.Rules.puzzle c.args.p.now) (g.P.Steps.own c.args.p.now) (g.met.P.Steps.own_less c.args.p.now)) c.args.grade start index c.args.value old set s t (aim_goal c.args.aim) c.requires.inside
          c.index.ensures low few c.without-less.ensures c.as_slice.ensures.value shows
          (λ shown. both_ways c.shows_on.result c.if-not-shows_on.true ((c.shows_on.ensures.shows here).1 shown)),
    )

pub returns-else-not-shows_on-clause-left : goal.returns-else-not-shows_on-clause-left
returns-else-not-shows_on-clause-left g c = λ shows.
    let Struck = StruckBy g.P.Rules.puzzle g.P.Steps.own c.args.p.now in
    let start = c.args.candidates.now in
    let old = c.args.steps.now.items in
    let index = c.args.index in
    let s = c.index.result.now in
    let t = c.without-less.result in
    let set = c.as_slice.result.now in
    let low : s.values < 2 ^ 16 = subst (λ (n : ℕ). n < 2 ^ 16) c.bits-bits.ensures (omega arith) in
    let few : t.values < 2 ^ 16 = subst (λ (n : ℕ). n < 2 ^ 16) c.bits-less_bits.ensures (omega arith) in
    let front : take index set ≡ take index old = ap (take index) c.as_slice.ensures.value ∙ take-set old index t in
    let here = subst (λ (xs : List Step). IsGradeChain Struck c.args.grade start (steps_of xs)) (sym front)
    (first_chain Struck c.args.grade start old index (shows.chain, shows.allowed)) in (
      subst (λ (xs : List Step). Shows Struck c.args.grade start (steps_of xs) (aim_goal c.args.aim)) c.as_slice.ensures.value
          ((c.shows_on.ensures.shows here).0 c.if-not-shows_on.false),
      left_less Struck c.args.grade start index c.args.value old s t (aim_goal c.args.aim) c.requires.inside c.index.ensures low few c.without-less.ensures,
    )
