use Rattle.std.proofs.Common.{◌≡◌, ℕ, ◌<◌, ◌≤◌, true, length, slice_index, sym, ap, ◌∙◌, subst, arith}
use Rattle.std.proofs.lemmas.Grind.{get_or_default_zero}
use Rattle.number_sets.specs.Sets.{has_number}
use Rattle.number_sets.proofs.Members.{has_number-none}
use Rattle.latin_board.specs.Lines.{line_cell}
use Rattle.line_steps.specs.Takes.{Strikes, AreChanged}
use Rattle.line_steps.proofs.Takes.{takes_none, takes_next, takes_length}
use Rattle.line_steps.proofs.TakenLines.{changed_none, changed_next, changed_not}
use Rattle.line_steps.proofs.lines.line_passes.strike_row.Goals as goal
use Rattle.line_steps.proofs.lines.line_passes.strike_row.Goals.{then-trail_len-count, else-trail_len-count}

pub loop-k-init : goal.loop-k-init
loop-k-init c =
    let first = c.args.candidates.now in (
      takes_none
          (λ cell v. (j : ℕ) × (j < 0) × (cell ≡ line_cell first.size c.args.line j) × (has_number (slice_index c.args.row.now j) v ≡ true)) first
          (λ cell v h. omega (arith, h.1)),
      changed_none c.args.line c.empty-changed.result first (λ k. ap (λ (n : ℕ). has_number n k) c.empty-changed.ensures ∙ has_number-none k),
    )

pub loop-k-preserved : goal.loop-k-preserved
loop-k-preserved c =
    let first = c.args.candidates.now in
    let now = c.loop-k.candidates in
    let next = c.strike.new.candidates in
    let line = c.args.line in
    let row = c.args.row.now in
    let k = c.loop-k.k in
    let width = c.get-k-end.ensures.value ∙ c.size-size.ensures.value in
    let low : k < first.size = omega (arith, c.loop-k-test.true, width) in
    let cell : c.line_cell.result ≡ line_cell first.size line k =
    c.line_cell.ensures.value ∙ ap (λ (n : ℕ). line_cell n line k) c.size-size.ensures.value in
    let set = get_or_default_zero row k c.index-row-k.result (omega (arith, c.type_inv.row, low, c.size-size.ensures.valid.largest)) in
    let struck : Strikes now next (line_cell first.size line k) (slice_index row k) = rw (cell, set) at c.strike.ensures in
    let taken =
    takes_next (line_cell first.size line) (λ j v. has_number (slice_index row j) v ≡ true) k (slice_index row k) first now next c.loop-k.invariant.0 struck
    (λ v pair. (λ h. h, λ h. h)) in
    let longer : length first.trail ≤ length now.trail =
    takes_length (λ cell v. (j : ℕ) × (j < k) × (cell ≡ line_cell first.size line j) × (has_number (slice_index row j) v ≡ true)) first now c.loop-k.invariant.0 in (
      taken,
      elim c.if-trail_len-count.branch [
        | then-trail_len-count w ↦
            subst (λ (places : ℕ). AreChanged line places first next) (sym w.changed-is)
            (changed_next line c.loop-k.changed w.one.result w.union-changed.result k (slice_index row k) first now next low longer w.one.ensures.members
            w.union-changed.ensures.members c.loop-k.invariant.1 struck
            (λ e. w.if-trail_len-count.true (c.trail_len.ensures.value ∙ e ∙ sym c.trail_len-count.ensures.value)))
        | else-trail_len-count w ↦
            subst (λ (places : ℕ). AreChanged line places first next) (sym w.changed-is)
            (changed_not line c.loop-k.changed (line_cell first.size line k) (slice_index row k) first now next c.loop-k.invariant.1 struck
            (sym c.trail_len.ensures.value ∙ w.if-trail_len-count.false ∙ c.trail_len-count.ensures.value))
      ],
    )
