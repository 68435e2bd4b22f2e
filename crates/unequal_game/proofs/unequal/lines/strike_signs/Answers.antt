use Rattle.std.proofs.Common.{◌≡◌, ℕ, ◌+◌, ◌<◌, inl, inr, sym, ap, ◌∙◌, subst, arith}
use Rattle.std.proofs.lemmas.Bool.{cases_eq}
use Rattle.latin_board.specs.Lines.{line_cell}
use Rattle.line_steps.specs.Left.{IsLeft}
use Rattle.unequal_game.specs.UnequalReasons.{IsUnequalStruckBy}
use Rattle.unequal_game.specs.Inner.SignLooks.{IsSignQuiet}
use Rattle.unequal_game.specs.Laws.UnequalReasons.{sign_stays}
use Rattle.line_steps.proofs.Leads.{leads_fewer, leads_length, leads_on, leads_size}
use Rattle.line_steps.proofs.StayingLines.{loses_both, stays_first, stays_second}
use Rattle.line_steps.specs.declared.grade.Grade.TheVariants.{Easy}
use Rattle.unequal_game.proofs.unequal.lines.strike_signs.Goals as goal

-- the square at the next place of a line is one step further
next : (line k cell size w step : ℕ) → size ≡ w → line_cell size line (k + 1) ≡ line_cell size line k + step → cell ≡ line_cell w line k
    → cell + step ≡ line_cell w line (k + 1)
next line k cell size w step same further here =
    let Further : ℕ → Type 0 = λ n. line_cell n line (k + 1) ≡ line_cell n line k + step in
    let on : Further w = subst Further same further in
    ap (λ (n : ℕ). n + step) here ∙ sym on

pub strike_between-requires-clause-size : goal.strike_between-requires-clause-size
strike_between-requires-clause-size c =
    leads_size (IsUnequalStruckBy c.args.p.now) Easy c.args.candidates.now c.loop-k.candidates c.loop-k.invariant.0 ∙ c.requires.size

pub strike_between-requires-clause-line : goal.strike_between-requires-clause-line
strike_between-requires-clause-line c =
    let same : c.loop-k.candidates.size ≡ c.args.candidates.now.size =
    leads_size (IsUnequalStruckBy c.args.p.now) Easy c.args.candidates.now c.loop-k.candidates c.loop-k.invariant.0 in
    omega (arith, same, c.requires.line)

pub strike_between-requires-clause-first : goal.strike_between-requires-clause-first
strike_between-requires-clause-first c =
    let same : c.loop-k.candidates.size ≡ c.args.candidates.now.size =
    leads_size (IsUnequalStruckBy c.args.p.now) Easy c.args.candidates.now c.loop-k.candidates c.loop-k.invariant.0 in
    record {
      inside = omega (arith, same, c.loop-k-test.true, c.get-k-end.ensures.value, c.size-size.ensures.value);
      here = c.loop-k.invariant.3 ∙ ap (λ (w : ℕ). line_cell w c.args.line c.loop-k.k) (sym same);
    }

pub strike_between-requires-clause-second : goal.strike_between-requires-clause-second
strike_between-requires-clause-second c =
    let same : c.loop-k.candidates.size ≡ c.args.candidates.now.size =
    leads_size (IsUnequalStruckBy c.args.p.now) Easy c.args.candidates.now c.loop-k.candidates c.loop-k.invariant.0 in
    record {
      inside = omega (arith, same, c.loop-k-test.true, c.get-k-end.ensures.value, c.size-size.ensures.value);
      here = next c.args.line c.loop-k.k c.loop-k.cell c.size-size.result c.args.candidates.now.size c.line_step-step.result c.size-size.ensures.value
          (c.line_step-step.ensures.value c.loop-k.k) c.loop-k.invariant.3 ∙ ap (λ (w : ℕ). line_cell w c.args.line (c.loop-k.k + 1)) (sym same);
    }

pub loop-k-preserved : goal.loop-k-preserved
loop-k-preserved c =
    let v = c.args.p.now in
    let Struck = IsUnequalStruckBy v in
    let line = c.args.line in
    let k = c.loop-k.k in
    let first = c.args.candidates.now in
    let now = c.loop-k.candidates in
    let d = c.strike_between.new.candidates in
    let lead = c.loop-k.invariant.0 in
    let step = c.strike_between.ensures.leads in
    let same : now.size ≡ first.size = leads_size Struck Easy first now lead in
    let further : d.size ≡ now.size = leads_size Struck Easy now d step in
    let here = c.loop-k.invariant.3 in
    let there = next line k c.loop-k.cell c.size-size.result first.size c.line_step-step.result c.size-size.ensures.value
    (c.line_step-step.ensures.value k) here in
    let fewer = leads_fewer Struck Easy now d step in (
      leads_on Struck Easy first now d lead step,
      loses_both line c.loop-k.changed c.strike_between.result c.union-changed.result first now d same (leads_length Struck Easy first now lead)
          (leads_length Struck Easy now d step) c.union-changed.ensures.members c.loop-k.invariant.1 c.strike_between.ensures.loses,
      λ stays j low.
          let before = stays_first line first now d fewer stays in
          let after = stays_second line first now d same (leads_fewer Struck Easy first now lead) stays in
          let On : ℕ → Type 0 = λ w. (i u : ℕ) → i < w → IsLeft now (line_cell w line i) u → IsLeft d (line_cell w line i) u in
          let on : On first.size = subst On same after in
          let within : k + 1 < first.size = omega (arith, c.loop-k-test.true, c.get-k-end.ensures.value, c.size-size.ensures.value) in
          elim (cases_eq j k) [
            | inl last ↦
                let Q : ℕ → ℕ → Type 0 = λ m n. IsSignQuiet v m n d in
                let quiet : Q (line_cell first.size line k) (line_cell first.size line (k + 1)) =
                subst (Q (line_cell first.size line k)) there (subst (λ (m : ℕ). Q m (c.loop-k.cell + c.line_step-step.result)) here (c.strike_between.ensures.quiet after)) in
                subst (λ (i : ℕ). IsSignQuiet v (line_cell first.size line i) (line_cell first.size line (i + 1)) d) (sym last) quiet
            | inr other ↦
                let inside : j + 1 < first.size = omega (arith, low, other, within) in
                sign_stays v (line_cell first.size line j) (line_cell first.size line (j + 1)) now d further fewer
                (λ u left. on j u (omega (arith, inside)) left) (λ u left. on (j + 1) u inside left)
                (c.loop-k.invariant.2 before j (omega (arith, low, other)))
          ],
      there,
    )

pub returns-clause-quiet : goal.returns-clause-quiet
returns-clause-quiet c = λ stays.
    let v = c.args.p.now in
    let first = c.args.candidates.now in
    let last = c.loop-k.candidates in
    let same : last.size ≡ first.size = leads_size (IsUnequalStruckBy v) Easy first last c.loop-k.invariant.0 in
    let Q : ℕ → Type 0 = λ w. (k : ℕ) → k + 1 < w → IsSignQuiet v (line_cell w c.args.line k) (line_cell w c.args.line (k + 1)) last in
    subst Q (sym same) (λ k low.
    c.loop-k.invariant.2 stays k (omega (arith, low, c.loop-k-test.false, c.get-k-end.ensures.value, c.size-size.ensures.value)))
