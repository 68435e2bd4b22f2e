use Rattle.line_steps.specs.Reasons.{StruckBy}
use Rattle.std.proofs.Common.{Ok, Err, sym, ◌∙◌}
use Rattle.needed_items.proofs.ItemLaws.{laws_of}
use Rattle.fair_games.specs.declared.fair_fault.FairFault.TheVariants.{NoneFound}
use Rattle.fair_games.proofs.FairSteps.{fair_once, fair_puzzle}
use Rattle.fair_games.proofs.games.fair.Goals as goal

pub returns-in-Some-clause-just_one : goal.returns-in-Some-clause-just_one
returns-in-Some-clause-just_one g c = λ other h.
    fair_once g.P.Rules (StruckBy g.P.Rules.puzzle g.P.Steps.own) c.args.grade _ _ other (Ok c.in-Some.puzzle) h
    (sym c.is_offered.ensures ∙ c.if-not-is_offered.false, c.in-Some.ensures.fair)

pub returns-in-None-clause-just_one : goal.returns-in-None-clause-just_one
returns-in-None-clause-just_one g c = λ other h.
    fair_once g.P.Rules (StruckBy g.P.Rules.puzzle g.P.Steps.own) c.args.grade _ _ other (Err NoneFound) h
    (sym c.is_offered.ensures ∙ c.if-not-is_offered.false, c.in-None.ensures.fair)

pub returns-in-Some-clause-valid : goal.returns-in-Some-clause-valid
returns-in-Some-clause-valid g c =
    (fair_puzzle g.P.Rules (StruckBy g.P.Rules.puzzle g.P.Steps.own) c.args.grade _ c.in-Some.puzzle
    (laws_of g.met.P.Rules)
    c.in-Some.ensures.fair).valid
