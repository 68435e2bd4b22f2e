use Rattle.std.proofs.Common.{◌≡◌, ◌↔◌, ℕ, ◌≤◌, true, sym, ap, ◌∙◌}
use Rattle.number_sets.specs.Sets.{has_number}
use Rattle.latin_board.specs.Lines.{line_cell}
use Rattle.trail_solver.specs.Candidates.{IsSetOf}
use Rattle.trail_solver.proofs.StruckSets.{shared_are}
use Rattle.line_steps.specs.Left.{IsLeft}
use Rattle.line_steps.specs.Takes.{Strikes}
use Rattle.unequal_game.proofs.SignPasses.{end_stays, lesser_still, sign_leads, sign_calm}
use Rattle.unequal_game.proofs.SignSets.{bounds_left}
use Rattle.line_steps.proofs.Takes.{strikes_among, strikes_length}
use Rattle.line_steps.proofs.StayingLines.{loses_both, loses_changed}
use Rattle.unequal_game.proofs.unequal.lines.strike_sign.Goals as goal

pub take_at-at_lesser-requires-clause-left : goal.take_at-at_lesser-requires-clause-left
take_at-at_lesser-requires-clause-left c =
    let b = c.take_at-at_greater.new.candidates in
    let still : IsSetOf b c.args.lesser.cell c.values-below.result =
    lesser_still c.args.p.now c.args.candidates.now b c.args.greater.cell c.args.lesser.cell c.intersection-too_low.result c.values-below.result
    c.size-valid.ensures.valid c.requires.sign c.take_at-at_greater.ensures.strikes c.values-below.ensures in
    shared_are b c.args.lesser.cell c.values-below.result c.from_greatest.result c.intersection-too_high.result still
    c.intersection-too_high.ensures.members

pub returns : goal.returns
returns c =
    let a = c.args.candidates.now in
    let b = c.take_at-at_greater.new.candidates in
    let d = c.take_at-at_lesser.new.candidates in
    let line = c.args.line in
    let greater = c.args.greater in
    let lesser = c.args.lesser in
    let above = c.up_to_least.result in
    let below = c.from_greatest.result in
    let first = c.take_at-at_greater.ensures in
    let last = c.take_at-at_lesser.ensures in
    let size : b.size ≡ a.size = first.strikes.size in
    let small = c.size-size.ensures.valid.largest in
    let above_is : (x : ℕ) → x ≤ a.size → (has_number above x ≡ true) ↔ ((u : ℕ) → IsLeft a lesser.cell u → x ≤ u) = λ x high.
    bounds_left a lesser.cell c.values-below.result above x (λ u. x ≤ u) small high c.values-below.ensures (c.up_to_least.ensures x) in
    let below_is : (x : ℕ) → x ≤ a.size → (has_number below x ≡ true) ↔ ((u : ℕ) → IsLeft a greater.cell u → u ≤ x) = λ x high.
    bounds_left a greater.cell c.values-above.result below x (λ u. u ≤ x) small high c.values-above.ensures (c.from_greatest.ensures x) in
    let up : Strikes a b greater.cell above =
    strikes_among a b greater.cell c.values-above.result above c.intersection-too_low.result c.values-above.ensures c.intersection-too_low.ensures.members
    first.strikes in
    let still : IsSetOf b lesser.cell c.values-below.result =
    lesser_still c.args.p.now a b greater.cell lesser.cell c.intersection-too_low.result c.values-below.result c.size-valid.ensures.valid c.requires.sign
    first.strikes c.values-below.ensures in
    let down : Strikes b d lesser.cell below =
    strikes_among b d lesser.cell c.values-below.result below c.intersection-too_high.result still c.intersection-too_high.ensures.members last.strikes in
    let there : lesser.cell ≡ line_cell b.size line lesser.place = c.requires.lesser.here ∙ ap (λ (w : ℕ). line_cell w line lesser.place) (sym size) in
    record {
      leads = sign_leads c.args.p.now greater.cell lesser.cell above below a b d c.requires.sign above_is below_is up down;
      loses = loses_both line c.take_at-at_greater.result c.take_at-at_lesser.result c.union.result a b d size
          (strikes_length a b _ _ first.strikes) (strikes_length b d _ _ last.strikes) c.union.ensures.members
          (loses_changed line c.take_at-at_greater.result a b (first.changed line c.requires.greater.here))
          (loses_changed line c.take_at-at_lesser.result b d (last.changed line there));
      quiet = λ stays.
          sign_calm c.args.p.now greater.cell lesser.cell above below a b d c.size-valid.ensures.valid c.requires.sign above_is below_is up down
          (end_stays line greater a d c.requires.greater stays) (end_stays line lesser a d c.requires.lesser stays);
    }
