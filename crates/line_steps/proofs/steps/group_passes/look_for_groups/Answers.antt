use Rattle.std.proofs.Common.{◌≡◌, ℕ, ◌*◌, ◌<◌, ◌≤◌, Bool, length, inl, inr, sym, ap, ◌∙◌, subst, arith}
use Rattle.std.proofs.lemmas.Bool.{cases_eq}
use Rattle.trail_solver.specs.Candidates.{CandidatesValue}
use Rattle.line_steps.specs.Reasons.{IsByLine}
use Rattle.line_steps.specs.Chains.{LeadsTo}
use Rattle.line_steps.specs.Inner.Groups.{IsGroupQuiet}
use Rattle.line_steps.specs.Inner.ChangedLines.{IsNoted}
use Rattle.line_steps.specs.Inner.LineLooks.{waiting_for}
use Rattle.line_steps.proofs.LineLooks.{each_noted, more_noted, more_joined, none_lost}
use Rattle.line_steps.proofs.Leads.{leads_on, leads_length, leads_same, leads_size}
use Rattle.line_steps.specs.declared.grade.Grade.TheVariants.{Hard}
use Rattle.line_steps.proofs.steps.group_passes.look_for_groups.Goals as goal

pub strike_groups_on-changed-requires : goal.strike_groups_on-changed-requires
strike_groups_on-changed-requires c =
    let first = c.args.candidates.now in
    let now = c.loop-line.candidates in
    let same : now.size ≡ first.size = leads_size _ _ _ _ c.loop-line.invariant.0 in
    omega (arith, same, c.loop-line-test.true, c.get-width.ensures.value, c.size.ensures.value)

pub loop-line-preserved : goal.loop-line-preserved
loop-line-preserved c =
    let first = c.args.candidates.now in
    let now = c.loop-line.candidates in
    let next = c.strike_groups_on-changed.new.candidates in
    let line = c.loop-line.line in
    let Struck = IsByLine first.size in
    let same : now.size ≡ first.size = leads_size _ _ _ _ c.loop-line.invariant.0 in
    let width : c.get-width.result ≡ now.size = c.get-width.ensures.value ∙ c.size.ensures.value ∙ sym same in
    let inside : line < 2 * now.size = omega (arith, same, c.loop-line-test.true, c.get-width.ensures.value, c.size.ensures.value) in
    let step : LeadsTo Struck Hard now next =
    subst (λ (w : ℕ). LeadsTo (IsByLine w) Hard now next) same c.strike_groups_on-changed.ensures.leads in
    let on : length first.trail ≤ length now.trail = leads_length _ _ _ _ c.loop-line.invariant.0 in
    let further : length now.trail ≤ length next.trail = leads_length _ _ _ _ step in
    let places = c.strike_groups_on-changed.result in
    let loses = c.strike_groups_on-changed.ensures.loses in
    let was = c.loop-line.waiting in
    let last = c.note.new.self in
    let noted : (what : Bool) → IsNoted now.size line places (waiting_for what was) (waiting_for what last) =
    subst (λ (w : ℕ). (what : Bool) → IsNoted w line places (waiting_for what was) (waiting_for what last)) width
    (each_noted c.get-width.result line places was last c.note.ensures.squares c.note.ensures.clues) in (
      leads_on _ _ _ _ _ c.loop-line.invariant.0 step,
      λ what.
          more_joined (waiting_for what c.args.waiting.now) (waiting_for what was) (waiting_for what last) first now next same
          (c.loop-line.invariant.1 what) (more_noted line places (waiting_for what was) (waiting_for what last) now next inside loses (noted what)),
      λ still j low.
          let not_before : length now.trail ≡ length first.trail = omega (arith, still, on, further) in
          let not_now : length next.trail ≡ length now.trail = omega (arith, still, not_before) in
          let is : now ≡ first = leads_same _ _ _ _ c.loop-line.invariant.0 not_before in
          elim (cases_eq j line) [
            | inl last ↦
                subst (λ (l : ℕ). IsGroupQuiet l first) (sym last)
                (subst (λ (d : CandidatesValue). IsGroupQuiet line d) is (c.strike_groups_on-changed.ensures.quiet
                (none_lost line places now next loses not_now)))
            | inr other ↦ c.loop-line.invariant.2 not_before j (omega (arith, low, other))
          ],
    )

-- where the trail is as long as before, nothing went
still : (c : goal.Then-trail_len-count) → length c.loop-line.candidates.trail ≡ length c.args.candidates.now.trail
still c = sym c.trail_len.ensures.value ∙ c.if-trail_len-count.true ∙ c.trail_len-count.ensures.value

same : (c : goal.Then-trail_len-count) → c.loop-line.candidates ≡ c.args.candidates.now
same c = leads_same _ _ _ _ c.loop-line.invariant.0 (still c)

pub returns-then-trail_len-count-clause-same : goal.returns-then-trail_len-count-clause-same
returns-then-trail_len-count-clause-same c = same c

pub returns-then-trail_len-count-clause-quiet : goal.returns-then-trail_len-count-clause-quiet
returns-then-trail_len-count-clause-quiet c = λ line low.
    let is = same c in
    let size : c.loop-line.candidates.size ≡ c.args.candidates.now.size = ap (λ (d : CandidatesValue). d.size) is in
    subst (λ (d : CandidatesValue). IsGroupQuiet line d) (sym is)
    (c.loop-line.invariant.2 (still c) line (omega (arith, low, size, c.loop-line-test.false, c.get-width.ensures.value, c.size.ensures.value)))

pub returns-clause-went : goal.returns-clause-went
returns-clause-went c =
    let longer = leads_length _ _ _ _ c.loop-line.invariant.0 in
    omega (arith, longer, c.trail_len.ensures.value, c.trail_len-count.ensures.value, c.if-trail_len-count.false)
