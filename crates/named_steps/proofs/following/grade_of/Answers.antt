use Rattle.line_steps.specs.Reasons.{StruckBy}
use Rattle.std.proofs.Common.{refl}
use Rattle.std.proofs.lemmas.Bool.{both_ways}
use Rattle.line_steps.specs.declared.grade.Grade.TheVariants.{Latin, Easy, Hard}
use Rattle.named_steps.proofs.Solutions.{graded_lowest, graded_next, none_follows}
use Rattle.named_steps.proofs.following.grade_of.Goals as goal

pub returns-then-follows_knowing : goal.returns-then-follows_knowing
returns-then-follows_knowing g c =
    graded_lowest (g.P.Rules.puzzle c.args.p.now) (StruckBy g.P.Rules.puzzle g.P.Steps.own c.args.p.now) (c.follows_knowing.ensures.0 c.if-follows_knowing.true)

pub returns-then-follows_knowing-2 : goal.returns-then-follows_knowing-2
returns-then-follows_knowing-2 g c =
    graded_next (g.P.Rules.puzzle c.args.p.now) (StruckBy g.P.Rules.puzzle g.P.Steps.own c.args.p.now) Latin Easy refl (c.follows_knowing-2.ensures.0 c.if-follows_knowing-2.true)
    (λ f. both_ways c.follows_knowing.result c.if-follows_knowing.false (c.follows_knowing.ensures.1 f))

pub returns-then-follows_knowing-3 : goal.returns-then-follows_knowing-3
returns-then-follows_knowing-3 g c =
    graded_next (g.P.Rules.puzzle c.args.p.now) (StruckBy g.P.Rules.puzzle g.P.Steps.own c.args.p.now) Easy Hard refl (c.follows_knowing-3.ensures.0 c.if-follows_knowing-3.true)
    (λ f. both_ways c.follows_knowing-2.result c.if-follows_knowing-2.false (c.follows_knowing-2.ensures.1 f))

pub returns : goal.returns
returns g c =
    let p = c.args.p.now in
    none_follows (g.P.Rules.puzzle p) (StruckBy g.P.Rules.puzzle g.P.Steps.own p) (λ f. both_ways c.follows_knowing.result c.if-follows_knowing.false (c.follows_knowing.ensures.1 f))
    (λ f. both_ways c.follows_knowing-2.result c.if-follows_knowing-2.false (c.follows_knowing-2.ensures.1 f))
    (λ f. both_ways c.follows_knowing-3.result c.if-follows_knowing-3.false (c.follows_knowing-3.ensures.1 f))
