use Rattle.line_steps.specs.Laws.Sound.{all_sound}
use Rattle.line_steps.specs.Laws.Less.{all_less}
use Rattle.line_steps.specs.Reasons.{StruckBy}
use Rattle.std.proofs.Common.{◌∙◌}
use Rattle.std.proofs.lemmas.Bool.{both_ways}
use Rattle.line_steps.proofs.KeptSolutions.{IsSoundFor}
use Rattle.named_steps.proofs.Solutions.{emptied_none, found_follows, open_none, filled_none}
use Rattle.line_steps.proofs.Leads.{leads_size}
use Rattle.line_steps.proofs.Rounds.{closure_reached}
use Rattle.named_steps.proofs.following.solution_knowing.Goals as goal

pub returns-then-not-settle : goal.returns-then-not-settle
returns-then-not-settle g c =
    let p = c.args.p.now in
    let sound : IsSoundFor (g.P.Rules.puzzle p) (StruckBy g.P.Rules.puzzle g.P.Steps.own p) = all_sound (g.P.Rules.puzzle p) (g.P.Steps.own p) (λ d reason cell value h. g.met.P.Steps.own_sound p d reason cell value h c.size.ensures.valid) in
    emptied_none (g.P.Rules.puzzle p) (StruckBy g.P.Rules.puzzle g.P.Steps.own p) sound c.args.grade c.all-candidates.result c.settle.new.candidates
    (c.all-candidates.ensures.size ∙ c.size.ensures.value) c.all-candidates.ensures.trail c.settle.ensures.leads c.if-not-settle.ensures.emptied

pub solves-requires : goal.solves-requires
solves-requires g c =
    c.in-Some.ensures.same_size
    ∙ leads_size (StruckBy g.P.Rules.puzzle g.P.Steps.own c.args.p.now) c.args.grade c.all-candidates.result c.settle.new.candidates c.settle.ensures.leads
    ∙ c.all-candidates.ensures.size ∙ c.size.ensures.value

pub returns-in_default : goal.returns-in_default
returns-in_default g c =
    let p = c.args.p.now in
    let puzzle = g.P.Rules.puzzle p in
    let sound : IsSoundFor puzzle (StruckBy g.P.Rules.puzzle g.P.Steps.own p) = all_sound (g.P.Rules.puzzle p) (g.P.Steps.own p) (λ d reason cell value h. g.met.P.Steps.own_sound p d reason cell value h c.size.ensures.valid) in
    open_none puzzle (StruckBy g.P.Rules.puzzle g.P.Steps.own p) sound (all_less (g.P.Rules.puzzle p) (g.P.Steps.own p) (g.met.P.Steps.own_less p)) c.args.grade c.all-candidates.result c.settle.new.candidates
    (c.all-candidates.ensures.size ∙ c.size.ensures.value) c.all-candidates.ensures.trail (closure_reached (StruckBy g.P.Rules.puzzle g.P.Steps.own p) c.args.grade c.all-candidates.result c.settle.new.candidates c.settle.ensures.leads c.if-not-settle.ensures.settled) c.in_default.ensures

pub returns-then-solves : goal.returns-then-solves
returns-then-solves g c =
    let p = c.args.p.now in
    found_follows (g.P.Rules.puzzle p) (StruckBy g.P.Rules.puzzle g.P.Steps.own p) c.args.grade c.all-candidates.result c.settle.new.candidates c.in-Some.grid
    (c.all-candidates.ensures.size ∙ c.size.ensures.value) c.all-candidates.ensures.trail (closure_reached (StruckBy g.P.Rules.puzzle g.P.Steps.own p) c.args.grade c.all-candidates.result c.settle.new.candidates c.settle.ensures.leads c.if-not-settle.ensures.settled) c.in-Some.ensures
    (c.solves.ensures.rule.0 c.if-solves.true)

pub returns-else-solves : goal.returns-else-solves
returns-else-solves g c =
    let p = c.args.p.now in
    let puzzle = g.P.Rules.puzzle p in
    let sound : IsSoundFor puzzle (StruckBy g.P.Rules.puzzle g.P.Steps.own p) = all_sound (g.P.Rules.puzzle p) (g.P.Steps.own p) (λ d reason cell value h. g.met.P.Steps.own_sound p d reason cell value h c.size.ensures.valid) in
    filled_none puzzle (StruckBy g.P.Rules.puzzle g.P.Steps.own p) sound (all_less (g.P.Rules.puzzle p) (g.P.Steps.own p) (g.met.P.Steps.own_less p)) c.args.grade c.all-candidates.result c.settle.new.candidates c.in-Some.grid
    (c.all-candidates.ensures.size ∙ c.size.ensures.value) c.all-candidates.ensures.trail (closure_reached (StruckBy g.P.Rules.puzzle g.P.Steps.own p) c.args.grade c.all-candidates.result c.settle.new.candidates c.settle.ensures.leads c.if-not-settle.ensures.settled) c.in-Some.ensures
    (λ s. both_ways c.solves.result c.if-solves.false (c.solves.ensures.rule.1 s))
