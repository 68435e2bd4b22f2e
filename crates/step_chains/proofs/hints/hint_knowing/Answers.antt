use Rattle.line_steps.specs.Reasons.{StruckBy}
use Rattle.step_chains.specs.ChainValues.{steps_of}
use Rattle.std.proofs.Common.{◌∙◌}
use Rattle.step_chains.proofs.Within.{explained_within, refuted_within}
use Rattle.step_chains.proofs.hints.hint_knowing.Goals as goal

pub returns-in_default-clause-forced : goal.returns-in_default-clause-forced
returns-in_default-clause-forced g c = λ view cell is forced same. c.in_default.ensures.forced view cell is forced

pub returns-in_ok-refutation-in-Nothing-clause-right : goal.returns-in_ok-refutation-in-Nothing-clause-right
returns-in_ok-refutation-in-Nothing-clause-right g c = λ h solves within.
    let p = c.args.p.now in
    let grid = c.args.grid.now in
    let found = c.in_ok-refutation-in-Nothing in
    let grade = c.in-Some.first.grade in
    let steps = steps_of found.refutation.steps.items in
    let refutes = found.ensures.is in
    refuted_within (g.P.Rules.puzzle p) (StruckBy g.P.Rules.puzzle g.P.Steps.own p) grade grid h c.args.view.now steps found.refutation.cell
    c.requires.grid (c.requires.view ∙ c.requires.grid) refutes
    (c.laws.ensures.keeps p refutes.view steps c.size-valid.ensures.valid (refutes.in_view.size ∙ c.requires.grid) refutes.refutes.leaves.chain) solves within

pub returns-in_ok-chain-in-Number-clause-right : goal.returns-in_ok-chain-in-Number-clause-right
returns-in_ok-chain-in-Number-clause-right g c = λ h solves within.
    let p = c.args.p.now in
    let grid = c.args.grid.now in
    let found = c.in_ok-chain-in-Number in
    let grade = c.in-Some.first.grade in
    let steps = steps_of found.chain.steps.items in
    let e = found.ensures.is in
    explained_within (g.P.Rules.puzzle p) (StruckBy g.P.Rules.puzzle g.P.Steps.own p) grade grid h c.args.view.now steps found.chain.goal
    c.requires.grid (c.requires.view ∙ c.requires.grid) e
    (c.laws.ensures.keeps p e.view steps c.size-valid.ensures.valid (e.in_view.size ∙ c.requires.grid) e.explains.shows.chain) solves within
