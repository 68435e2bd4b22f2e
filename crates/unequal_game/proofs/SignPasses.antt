-- Values that signs take away are struck by them; where they take nothing they strike nothing that is left.
use Rattle.std.proofs.Common.{◌≡◌, ◌↔◌, ◌⊎◌, ℕ, ◌*◌, ◌<◌, ◌≤◌, true, inl, inr, refl, sym, subst}
use Rattle.number_sets.specs.Sets.{has_number}
use Rattle.latin_board.proofs.LatinLines.{line_cell_inside}
use Rattle.trail_solver.specs.Pairs.{IsPair}
use Rattle.trail_solver.specs.Candidates.{CandidatesValue, IsSetOf}
use Rattle.unequal_game.specs.Unequal.{UnequalValue, IsUnequal, IsGreater}
use Rattle.unequal_game.specs.Laws.Signs.{never_both}
use Rattle.line_steps.specs.Left.{IsLeft}
use Rattle.unequal_game.specs.UnequalReasons.{IsUnequalStruckBy}
use Rattle.unequal_game.specs.Inner.SignLooks.{IsSignQuiet}
use Rattle.unequal_game.specs.Laws.UnequalReasons.{unequal_less, sign_was}
use Rattle.line_steps.specs.Chains.{LeadsTo}
use Rattle.line_steps.specs.Along.{StaysOn}
use Rattle.line_steps.specs.Takes.{Strikes, Takes}
use Rattle.unequal_game.specs.Inner.SignEnds.{IsEnd}
use Rattle.unequal_game.specs.declared.unequal.lines.End.{End}
use Rattle.line_steps.proofs.Leads.{leads_taken}
use Rattle.line_steps.proofs.Takes.{set_apart, takes_both, takes_struck}
use Rattle.line_steps.specs.declared.reason.Reason.TheVariants.{Sign}
use Rattle.line_steps.specs.declared.grade.Grade.TheVariants.{Easy}

-- an end is a square of the grid
pub end_inside : (w line : ℕ) (end : End) → line < 2 * w → IsEnd w line end → end.cell < w * w
end_inside w line end low is = subst (λ (n : ℕ). n < w * w) (sym is.here) (line_cell_inside w line end.place low is.inside)

-- nothing goes from the square of an end if nothing goes along the line
pub end_stays : (line : ℕ) (end : End) (a b : CandidatesValue) → IsEnd a.size line end → StaysOn line a b → (v : ℕ) → IsLeft a end.cell v → IsLeft b end.cell v
end_stays line end a b is stays v left =
    subst (λ (n : ℕ). IsLeft b n v) (sym is.here) (stays end.place v is.inside (subst (λ (n : ℕ). IsLeft a n v) is.here left))

-- the set of the lesser square stays when something goes from the greater one, which is another square
pub lesser_still : (v : UnequalValue) (a b : CandidatesValue) (greater lesser taken set : ℕ) → IsUnequal v → IsGreater v greater lesser
    → Strikes a b greater taken → IsSetOf a lesser set → IsSetOf b lesser set
lesser_still v a b greater lesser taken set valid up s is =
    set_apart a b greater lesser taken set (λ e.
    let same : IsGreater v greater greater = subst (λ (n : ℕ). IsGreater v greater n) e up in
    never_both v greater greater valid same same) s is

-- the square is the greater end and the value in one set, or it is the lesser end and the value in the other
abbrev AtEnds : ℕ → ℕ → ℕ → ℕ → ℕ → ℕ → Type 0
AtEnds greater lesser above below cell x =
    ((cell ≡ greater) × (has_number above x ≡ true)) ⊎ ((cell ≡ lesser) × (has_number below x ≡ true))

-- if values go from one end and then values from the other, these and those are what goes
ends_taken : (greater lesser above below : ℕ) (a b c : CandidatesValue) → Strikes a b greater above → Strikes b c lesser below
    → Takes (AtEnds greater lesser above below) a c
ends_taken greater lesser above below a b c s t =
    takes_both (λ cell x. (cell ≡ greater) × (has_number above x ≡ true)) (λ cell x. (cell ≡ lesser) × (has_number below x ≡ true)) a b c
    (takes_struck a b greater above s) (takes_struck b c lesser below t)

-- what goes from both ends by a sign goes by steps of the easy grade
pub sign_leads : (v : UnequalValue) (greater lesser above below : ℕ) (a b c : CandidatesValue) → IsGreater v greater lesser
    → ((x : ℕ) → x ≤ a.size → (has_number above x ≡ true) ↔ ((u : ℕ) → IsLeft a lesser u → x ≤ u))
    → ((x : ℕ) → x ≤ a.size → (has_number below x ≡ true) ↔ ((u : ℕ) → IsLeft a greater u → u ≤ x))
    → Strikes a b greater above → Strikes b c lesser below → LeadsTo (IsUnequalStruckBy v) Easy a c
sign_leads v greater lesser above below a b c up above_is below_is s t =
    leads_taken (IsUnequalStruckBy v) (unequal_less v) Easy (AtEnds greater lesser above below) a c (ends_taken greater lesser above below a b c s t)
    (λ cell x pair h. elim h [
      | inl first ↦ (Sign lesser greater, refl, record { here = first.0; why = inr (up, (above_is x pair.high).0 first.1) })
      | inr second ↦ (Sign greater lesser, refl, record { here = second.0; why = inl (up, (below_is x pair.high).0 second.1) })
    ])

-- if what a sign strikes was taken and nothing went from either end, the sign strikes nothing more
pub sign_calm : (v : UnequalValue) (greater lesser above below : ℕ) (a b c : CandidatesValue) → IsUnequal v → IsGreater v greater lesser
    → ((x : ℕ) → x ≤ a.size → (has_number above x ≡ true) ↔ ((u : ℕ) → IsLeft a lesser u → x ≤ u))
    → ((x : ℕ) → x ≤ a.size → (has_number below x ≡ true) ↔ ((u : ℕ) → IsLeft a greater u → u ≤ x))
    → Strikes a b greater above → Strikes b c lesser below → ((u : ℕ) → IsLeft a greater u → IsLeft c greater u) → ((u : ℕ) → IsLeft a lesser u → IsLeft c lesser u)
    → IsSignQuiet v greater lesser c
sign_calm v greater lesser above below a b c valid up above_is below_is s t first second cell x pair =
    let taken = ends_taken greater lesser above below a b c s t in
    let there : IsPair a.size cell x = subst (λ (w : ℕ). IsPair w cell x) taken.size pair in (
      λ h.
          let was = sign_was v greater lesser cell x a c first h in
          elim was.why [
            | inl down ↦ taken.gone cell x there (inr (was.here, (below_is x there.high).1 down.1))
            | inr wrong ↦ absurd (never_both v greater lesser valid up wrong.0)
          ],
      λ h.
          let was = sign_was v lesser greater cell x a c second h in
          elim was.why [
            | inl wrong ↦ absurd (never_both v greater lesser valid up wrong.0)
            | inr rise ↦ taken.gone cell x there (inl (was.here, (above_is x there.high).1 rise.1))
          ],
    )
