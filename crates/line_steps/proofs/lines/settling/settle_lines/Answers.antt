use Rattle.line_steps.specs.Laws.Along.{all_look}
use Rattle.line_steps.specs.Reasons.{StruckBy}
use Rattle.std.proofs.Common.{◌≡◌, ◌*◌, ◌∙◌, arith}
use Rattle.line_steps.specs.Inner.LineLooks.{IsQuietOn, waiting_for}
use Rattle.line_steps.proofs.LineSets.{cube_most}
use Rattle.line_steps.proofs.LineLooks.{all_wait, looks_stay, more_quiet}
use Rattle.line_steps.proofs.Rounds.{IsOnTheWay, goes_further, groups_lead}
use Rattle.line_steps.proofs.LinePasses.{givens_lead}
use Rattle.line_steps.proofs.Leads.{leads_fewer, leads_length, leads_size}
use Rattle.line_steps.proofs.lines.settling.settle_lines.Goals as goal

pub rounds-init : goal.rounds-init
rounds-init g c =
    let p = c.args.p.now in
    let Struck = StruckBy g.P.LinePass.puzzle g.P.LinePass.own p in
    let grade = g.P.LinePass.grade p in
    let first = c.args.candidates.now in
    let new = c.strike_givens.new.candidates in
    let size = leads_size _ _ _ _ c.strike_givens.ensures.leads in (
      record { leads = givens_lead Struck grade _ _ c.strike_givens.ensures.leads; givens = c.strike_givens.ensures.settled },
      all_wait Struck grade c.first-waiting.result new (2 * c.get-width.result)
          (λ line low. omega (arith, low, size, c.get-width.ensures.value, c.size.ensures.value)) c.first-waiting.ensures.squares c.first-waiting.ensures.clues,
    )

pub look-requires : goal.look-requires
look-requires g c = record { size = leads_size _ _ _ _ c.rounds.invariant.0.leads ∙ c.requires.size }

pub returns-then-not-look-clause-leads : goal.returns-then-not-look-clause-leads
returns-then-not-look-clause-leads g c = (goes_further c.rounds.invariant.0 c.look.ensures.leads).leads

pub returns-then-not-look-clause-givens : goal.returns-then-not-look-clause-givens
returns-then-not-look-clause-givens g c = (goes_further c.rounds.invariant.0 c.look.ensures.leads).givens

pub returns-then-not-groups-clause-leads : goal.returns-then-not-groups-clause-leads
returns-then-not-groups-clause-leads g c = (goes_further c.rounds.invariant.0 c.look.ensures.leads).leads

pub returns-then-not-groups-clause-givens : goal.returns-then-not-groups-clause-givens
returns-then-not-groups-clause-givens g c = (goes_further c.rounds.invariant.0 c.look.ensures.leads).givens

pub returns-then-not-groups-clause-quiet : goal.returns-then-not-groups-clause-quiet
returns-then-not-groups-clause-quiet g c = c.if-not-look.ensures.quiet c.rounds.invariant.1

pub returns-then-not-look_for_groups-clause-leads : goal.returns-then-not-look_for_groups-clause-leads
returns-then-not-look_for_groups-clause-leads g c =
    rw c.if-not-look_for_groups.ensures.same (goes_further c.rounds.invariant.0 c.look.ensures.leads).leads

pub returns-then-not-look_for_groups-clause-givens : goal.returns-then-not-look_for_groups-clause-givens
returns-then-not-look_for_groups-clause-givens g c =
    rw c.if-not-look_for_groups.ensures.same (goes_further c.rounds.invariant.0 c.look.ensures.leads).givens

pub returns-then-not-look_for_groups-clause-quiet : goal.returns-then-not-look_for_groups-clause-quiet
returns-then-not-look_for_groups-clause-quiet g c = rw c.if-not-look_for_groups.ensures.same (c.if-not-look.ensures.quiet c.rounds.invariant.1)

pub rounds-smaller : goal.rounds-smaller
rounds-smaller g c =
    let middle = c.look.new.candidates in
    let longer = leads_length _ _ _ _ c.look.ensures.leads in
    let size = leads_size _ _ _ _ (goes_further c.rounds.invariant.0 c.look.ensures.leads).leads in
    let cube = cube_most middle.size (omega (arith, size, c.size.ensures.valid.largest)) in
    omega (arith, cube, longer, c.if-not-look_for_groups.ensures.went, c.trail_len-length.ensures.value, c.trail_len-length.ensures.bound)

pub rounds-preserved : goal.rounds-preserved
rounds-preserved g c =
    let p = c.args.p.now in
    let Struck = StruckBy g.P.LinePass.puzzle g.P.LinePass.own p in
    let grade = g.P.LinePass.grade p in
    let first = c.args.candidates.now in
    let puzzle = g.P.LinePass.puzzle p in
    let Own = g.P.LinePass.own p in
    let middle = c.look.new.candidates in
    let next = c.look_for_groups.new.candidates in
    let here : IsOnTheWay puzzle Own grade first middle = goes_further c.rounds.invariant.0 c.look.ensures.leads in
    let size : middle.size ≡ puzzle.size = leads_size _ _ _ _ here.leads ∙ c.requires.size in
    let groups = groups_lead puzzle Own grade middle next size (rw c.if-not-groups.false at c.requires.groups) c.look_for_groups.ensures.leads in (
      goes_further here groups,
      λ what.
          more_quiet puzzle.size (IsQuietOn Struck grade what)
          (looks_stay puzzle.size Struck (all_look puzzle Own (g.met.P.LinePass.looks_along p)) grade what) (waiting_for what c.look.new.waiting)
          (waiting_for what c.look_for_groups.new.waiting) middle next size (leads_size _ _ _ _ groups)
          (leads_fewer _ _ _ _ groups) (c.look_for_groups.ensures.more what)
          (λ line low free. c.if-not-look.ensures.quiet c.rounds.invariant.1 line low what),
    )
