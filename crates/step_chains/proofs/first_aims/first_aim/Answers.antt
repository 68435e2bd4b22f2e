use Rattle.line_steps.specs.Laws.Less.{all_less}
use Rattle.line_steps.specs.Reasons.{StruckBy}
use Rattle.step_chains.specs.Inner.Views.{seen}
use Rattle.std.proofs.Common.{Option, subst, arith}
use Rattle.std.specs.Option.{MatchOption}
use Rattle.trail_solver.specs.Candidates.{CandidatesValue}
use Rattle.line_steps.specs.declared.grade.Grade.{Grade}
use Rattle.line_steps.specs.declared.grade.Grade.TheVariants.{Latin, Easy, Hard}
use Rattle.named_steps.specs.declared.goal.Goal.{Goal}
use Rattle.step_chains.specs.Inner.FromEachView.{IsRefutedGrid, NothingIsShown}
use Rattle.step_chains.specs.Inner.Goals.{IsOpenShown}
use Rattle.step_chains.proofs.NextHints.{below_latin, below_easy, below_hard, emptied_least, left_up, nowhere_left, over_holds, over_silent, shown_least}
use Rattle.step_chains.proofs.first_aims.first_aim.Goals as goal

pub go_on-requires-2-clause-from : goal.go_on-requires-2-clause-from
go_on-requires-2-clause-from g c =
    left_up (StruckBy g.P.Rules.puzzle g.P.Steps.own c.args.p.now) Latin Easy (seen c.args.grid.now c.args.view.now) c.go_on.new.settled (omega arith) c.go_on.ensures.left

pub go_on-requires-3-clause-from : goal.go_on-requires-3-clause-from
go_on-requires-3-clause-from g c =
    left_up (StruckBy g.P.Rules.puzzle g.P.Steps.own c.args.p.now) Easy Hard (seen c.args.grid.now c.args.view.now) c.go_on-2.new.settled (omega arith) c.go_on-2.ensures.left

pub returns-in-Some : goal.returns-in-Some
returns-in-Some g c =
    let Struck = StruckBy g.P.Rules.puzzle g.P.Steps.own c.args.p.now in
    let less = all_less (g.P.Rules.puzzle c.args.p.now) (g.P.Steps.own c.args.p.now) (g.met.P.Steps.own_less c.args.p.now) in
    let b = (seen c.args.grid.now c.args.view.now) in
    rw (c.emptied.ensures.grade, c.emptied.ensures.aim) (emptied_least Struck less Latin b c.go_on.new.settled c.in-Some.cell
    c.go_on.ensures.left c.in-Some.ensures.over (below_latin (λ lower. IsRefutedGrid Struck lower b → ⊥)))

pub returns-in-Some-go_on : goal.returns-in-Some-go_on
returns-in-Some-go_on g c =
    let Struck = StruckBy g.P.Rules.puzzle g.P.Steps.own c.args.p.now in
    let less = all_less (g.P.Rules.puzzle c.args.p.now) (g.P.Steps.own c.args.p.now) (g.met.P.Steps.own_less c.args.p.now) in
    let b = (seen c.args.grid.now c.args.view.now) in
    let latin = c.go_on.new.settled in
    let easy = c.go_on-2.new.settled in
    let Holds : Grade → Type 0 = λ grade. IsRefutedGrid Struck grade b → ⊥ in
    let told = c.emptied-in-Some-go_on.ensures in
    rw (told.grade, told.aim) (emptied_least Struck less Easy b easy c.in-Some-go_on.cell c.go_on-2.ensures.left c.in-Some-go_on.ensures.over
    (below_easy Holds (over_holds Struck less Latin b latin c.in_default.ensures.over)))

pub returns-in-Some-go_on-2 : goal.returns-in-Some-go_on-2
returns-in-Some-go_on-2 g c =
    let Struck = StruckBy g.P.Rules.puzzle g.P.Steps.own c.args.p.now in
    let less = all_less (g.P.Rules.puzzle c.args.p.now) (g.P.Steps.own c.args.p.now) (g.met.P.Steps.own_less c.args.p.now) in
    let b = (seen c.args.grid.now c.args.view.now) in
    let latin = c.go_on.new.settled in
    let easy = c.go_on-2.new.settled in
    let hard = c.go_on-3.new.settled in
    let Holds : Grade → Type 0 = λ grade. IsRefutedGrid Struck grade b → ⊥ in
    let told = c.emptied-in-Some-go_on-2.ensures in
    rw (told.grade, told.aim) (emptied_least Struck less Hard b hard c.in-Some-go_on-2.cell c.go_on-3.ensures.left c.in-Some-go_on-2.ensures.over
    (below_hard Holds (over_holds Struck less Latin b latin c.in_default.ensures.over)
    (over_holds Struck less Easy b easy c.in_default-go_on.ensures.over)))

pub returns-in-Some-default-default : goal.returns-in-Some-default-default
returns-in-Some-default-default g c =
    let Struck = StruckBy g.P.Rules.puzzle g.P.Steps.own c.args.p.now in
    let less = all_less (g.P.Rules.puzzle c.args.p.now) (g.P.Steps.own c.args.p.now) (g.met.P.Steps.own_less c.args.p.now) in
    let b = (seen c.args.grid.now c.args.view.now) in
    let latin = c.go_on.new.settled in
    let hard = c.go_on-3.new.settled in
    let Silent : Grade → Type 0 = λ grade. NothingIsShown Struck grade b in
    let Says : CandidatesValue → Option Goal → Type 0 = λ d said. MatchOption said ((goal : Goal) → IsOpenShown b.grid d goal → ⊥) (IsOpenShown b.grid d) in
    let shown = subst (Says latin) c.in-Some-default-default.is-0 c.shown_goal-by_latin.ensures in
    rw (c.shown.ensures.grade, c.shown.ensures.aim) (shown_least Struck less Latin b latin c.in-Some-default-default.goal c.go_on.ensures.left shown
    (below_latin Silent) (over_holds Struck less Hard b hard c.in_default-go_on-2.ensures.over))

pub returns-in-None-Some-default : goal.returns-in-None-Some-default
returns-in-None-Some-default g c =
    let Struck = StruckBy g.P.Rules.puzzle g.P.Steps.own c.args.p.now in
    let less = all_less (g.P.Rules.puzzle c.args.p.now) (g.P.Steps.own c.args.p.now) (g.met.P.Steps.own_less c.args.p.now) in
    let b = (seen c.args.grid.now c.args.view.now) in
    let latin = c.go_on.new.settled in
    let easy = c.go_on-2.new.settled in
    let hard = c.go_on-3.new.settled in
    let Silent : Grade → Type 0 = λ grade. NothingIsShown Struck grade b in
    let Says : CandidatesValue → Option Goal → Type 0 = λ d said. MatchOption said ((goal : Goal) → IsOpenShown b.grid d goal → ⊥) (IsOpenShown b.grid d) in
    let found = c.in-None-Some-default in
    let none = subst (Says latin) found.is-0 c.shown_goal-by_latin.ensures in
    let shown = subst (Says easy) found.is-1 c.shown_goal-by_easy.ensures in
    let told = c.shown-in-None-Some-default.ensures in
    rw (told.grade, told.aim) (shown_least Struck less Easy b easy found.goal c.go_on-2.ensures.left shown
    (below_easy Silent (over_silent Struck less Latin b latin c.in_default.ensures.over none)) (over_holds Struck less Hard b hard c.in_default-go_on-2.ensures.over))

pub returns-in-None-None-Some : goal.returns-in-None-None-Some
returns-in-None-None-Some g c =
    let Struck = StruckBy g.P.Rules.puzzle g.P.Steps.own c.args.p.now in
    let less = all_less (g.P.Rules.puzzle c.args.p.now) (g.P.Steps.own c.args.p.now) (g.met.P.Steps.own_less c.args.p.now) in
    let b = (seen c.args.grid.now c.args.view.now) in
    let latin = c.go_on.new.settled in
    let easy = c.go_on-2.new.settled in
    let hard = c.go_on-3.new.settled in
    let Silent : Grade → Type 0 = λ grade. NothingIsShown Struck grade b in
    let Says : CandidatesValue → Option Goal → Type 0 = λ d said. MatchOption said ((goal : Goal) → IsOpenShown b.grid d goal → ⊥) (IsOpenShown b.grid d) in
    let found = c.in-None-None-Some in
    let none = subst (Says latin) found.is-0 c.shown_goal-by_latin.ensures in
    let no_more = subst (Says easy) found.is-1 c.shown_goal-by_easy.ensures in
    let told = c.shown-in-None-None-Some.ensures in
    rw (told.grade, told.aim) (shown_least Struck less Hard b hard found.goal c.go_on-3.ensures.left found.ensures
    (below_hard Silent (over_silent Struck less Latin b latin c.in_default.ensures.over none) (over_silent Struck less Easy b easy c.in_default-go_on.ensures.over no_more))
    (over_holds Struck less Hard b hard c.in_default-go_on-2.ensures.over))

pub returns-in-None-None-None : goal.returns-in-None-None-None
returns-in-None-None-None g c =
    nowhere_left (StruckBy g.P.Rules.puzzle g.P.Steps.own c.args.p.now) (all_less (g.P.Rules.puzzle c.args.p.now) (g.P.Steps.own c.args.p.now) (g.met.P.Steps.own_less c.args.p.now)) (seen c.args.grid.now c.args.view.now) c.go_on-3.new.settled
    c.in_default-go_on-2.ensures.over c.in-None-None-None.ensures
