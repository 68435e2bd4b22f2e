use Rattle.std.proofs.Common.{◌≡◌, ℕ, ◌+◌, ◌*◌, ◌<◌, sym, ap, ◌∙◌, subst, arith}
use Rattle.line_steps.specs.Views.{front_place, view_line}
use Rattle.towers_game.specs.Laws.ViewLines.{front_line}
use Rattle.towers_game.specs.TowersReasons.{IsTowersStruckBy}
use Rattle.line_steps.specs.Along.{StaysOn}
use Rattle.towers_game.specs.Inner.TowersLooks.{IsViewQuiet}
use Rattle.towers_game.specs.Laws.TowersReasons.{view_stays}
use Rattle.towers_game.specs.Rows.{look_grade}
use Rattle.line_steps.proofs.Leads.{leads_fewer, leads_length, leads_on, leads_size}
use Rattle.line_steps.proofs.LineEnds.{back_line, back_low}
use Rattle.towers_game.proofs.ViewPasses.{ends_quiet}
use Rattle.line_steps.proofs.StayingLines.{loses_both, stays_all, stays_first, stays_second}
use Rattle.towers_game.proofs.towers.lines.strike_views.Goals as goal

pub strike_view-from_front-requires : goal.strike_view-from_front-requires
strike_view-from_front-requires g c =
    let a = c.args.candidates.now in
    let line = c.args.line in
    let front : c.front_place-front.result ≡ front_place a.size line =
    c.front_place-front.ensures.value ∙ ap (λ (w : ℕ). front_place w line) c.size-size.ensures.value in
    record {
      size = c.requires.size;
      place = omega (arith, front, back_low a.size line c.requires.line);
      line = ap (view_line a.size) front ∙ front_line a.size line c.requires.line;
    }

pub strike_view-from_back-requires : goal.strike_view-from_back-requires
strike_view-from_back-requires g c =
    let a = c.args.candidates.now in
    let b = c.strike_view-from_front.new.candidates in
    let line = c.args.line in
    let size : b.size ≡ a.size = leads_size (IsTowersStruckBy c.args.p.now) (look_grade c.args.look) a b c.strike_view-from_front.ensures.leads in
    let width : c.get.result ≡ a.size = c.get.ensures.value ∙ c.size-size.ensures.value in
    let front : c.front_place-front.result ≡ front_place a.size line = c.front_place-front.ensures.value ∙ ap (λ (w : ℕ). front_place w line) c.size-size.ensures.value in
    let place : c.front_place-front.result + c.get.result ≡ front_place a.size line + a.size = omega (arith, front, width) in
    record {
      size = size ∙ c.requires.size;
      place = omega (arith, size, place, back_low a.size line c.requires.line);
      line = ap (λ (w : ℕ). view_line w (c.front_place-front.result + c.get.result)) size ∙ ap (view_line a.size) place
          ∙ back_line a.size line c.requires.line;
    }

pub returns-clause-leads : goal.returns-clause-leads
returns-clause-leads g c =
    leads_on (IsTowersStruckBy c.args.p.now) (look_grade c.args.look) c.args.candidates.now c.strike_view-from_front.new.candidates
    c.strike_view-from_back.new.candidates c.strike_view-from_front.ensures.leads c.strike_view-from_back.ensures.leads

pub returns-clause-loses : goal.returns-clause-loses
returns-clause-loses g c =
    let Struck = IsTowersStruckBy c.args.p.now in
    let grade = look_grade c.args.look in
    let a = c.args.candidates.now in
    let b = c.strike_view-from_front.new.candidates in
    let d = c.strike_view-from_back.new.candidates in
    loses_both c.args.line c.strike_view-from_front.result c.strike_view-from_back.result c.union.result a b d
    (leads_size Struck grade a b c.strike_view-from_front.ensures.leads) (leads_length Struck grade a b c.strike_view-from_front.ensures.leads)
    (leads_length Struck grade b d c.strike_view-from_back.ensures.leads) c.union.ensures.members c.strike_view-from_front.ensures.loses
    c.strike_view-from_back.ensures.loses

pub returns-clause-quiet : goal.returns-clause-quiet
returns-clause-quiet g c = λ none.
    let v = c.args.p.now in
    let look = c.args.look in
    let line = c.args.line in
    let Struck = IsTowersStruckBy v in
    let grade = look_grade look in
    let a = c.args.candidates.now in
    let b = c.strike_view-from_front.new.candidates in
    let d = c.strike_view-from_back.new.candidates in
    let first = c.strike_view-from_front.ensures.leads in
    let second = c.strike_view-from_back.ensures.leads in
    let size : b.size ≡ a.size = leads_size Struck grade a b first in
    let same : d.size ≡ b.size = leads_size Struck grade b d second in
    let width : c.get.result ≡ a.size = c.get.ensures.value ∙ c.size-size.ensures.value in
    let front : c.front_place-front.result ≡ front_place a.size line = c.front_place-front.ensures.value ∙ ap (λ (w : ℕ). front_place w line) c.size-size.ensures.value in
    let stays = stays_all line c.union.result line a d none (returns-clause-loses g c) in
    let before = stays_first line a b d (leads_fewer Struck grade b d second) stays in
    let after = stays_second line a b d size (leads_fewer Struck grade a b first) stays in
    let low : c.front_place-front.result < 4 * b.size = omega (arith, size, front, back_low a.size line c.requires.line) in
    let here : view_line b.size c.front_place-front.result ≡ line =
    ap (λ (w : ℕ). view_line w c.front_place-front.result) size ∙ ap (view_line a.size) front ∙ front_line a.size line c.requires.line in
    let at_front : IsViewQuiet v look c.front_place-front.result d =
    view_stays v look c.front_place-front.result b d (size ∙ c.requires.size) low same (leads_fewer Struck grade b d second)
    (subst (λ (l : ℕ). StaysOn l b d) (sym here) after) (c.strike_view-from_front.ensures.quiet before) in
    let whole : d.size ≡ a.size = same ∙ size in
    let Q : ℕ → Type 0 = λ n. IsViewQuiet v look n d in
    let one : c.front_place-front.result ≡ front_place d.size line = front ∙ ap (λ (w : ℕ). front_place w line) (sym whole) in
    let two : c.front_place-front.result + c.get.result ≡ front_place d.size line + d.size = omega (arith, one, width, whole) in
    ends_quiet v look line d (subst Q one at_front) (subst Q two (c.strike_view-from_back.ensures.quiet after))
