-- A clue's strikes are told by the counts: the clue isn't among them.
use Rattle.std.proofs.Common.{◌≡◌, ◌<◌, ℕ, zero, slice_index, sym, ap, ◌∙◌, subst, arith}
use Rattle.towers_game.specs.Towers.{TowersValue, clue_of}
use Rattle.unequal_game.specs.Unequal.{UnequalValue}
use Rattle.line_steps.specs.Laws.LineSquares.{view_cell_once}
use Rattle.trail_solver.specs.Candidates.{CandidatesValue}
use Rattle.line_steps.specs.Left.{IsLeft}
use Rattle.towers_game.specs.Fillings.{Anything, Standing, IsUnfilled}
use Rattle.towers_game.specs.TowersReasons.{IsTowersStruckBy}
use Rattle.unequal_game.specs.UnequalReasons.{IsUnequalStruckBy}
use Rattle.line_steps.specs.declared.reason.Reason.{Reason}
use Rattle.line_steps.specs.declared.reason.Reason.TheVariants.{Given, Bound, Stand, Clue}
use Rattle.shown_counts.specs.Shown.{CanShow, IsShownBy}
use Rattle.step_texts.specs.Told.{reason_clue, IsSeenFrom, IsInView}

-- if no filling of a clue's line has a value in a square, no line with the value there shows the clue
unfilled_unshown : (w : ℕ) (May : ℕ → ℕ → Type 0) (place clue cell value : ℕ) → IsUnfilled w May place clue cell value
    → CanShow w May place cell value clue → ⊥
unfilled_unshown w May place clue cell value u s =
    let same : u.index ≡ s.index =
    view_cell_once w place u.index s.index s.edge u.inside s.inside (u.here ∙ sym s.here) in
    u.none s.line s.filling (ap (slice_index s.line) same ∙ s.there)

-- if no line with a value in a square shows the clue, no filling of the clue's line has the value there
unshown_unfilled : (w : ℕ) (May : ℕ → ℕ → Type 0) (place clue cell value : ℕ) → IsSeenFrom w place cell
    → (CanShow w May place cell value clue → ⊥)
    → IsUnfilled w May place clue cell value
unshown_unfilled w May place clue cell value seen none = record {
  index = seen.index;
  inside = seen.inside;
  here = seen.here;
  none = λ line filling there. none (record {
    edge = seen.edge;
    index = seen.index;
    inside = seen.inside;
    here = seen.here;
    line = line;
    filling = filling;
    there = there;
  });
}

pub towers_unshown : (v : TowersValue) (c : CandidatesValue) (reason : Reason) (cell value : ℕ) → c.size ≡ v.size
    → IsTowersStruckBy v c reason cell value
    → IsShownBy c reason cell value (reason_clue (clue_of v) reason) → ⊥
towers_unshown v c (Bound place) cell value size h s =
    unfilled_unshown v.size Anything place (clue_of v place) cell value h.unfilled
    (subst (λ w. CanShow w Anything place cell value (clue_of v place)) size s)
towers_unshown v c (Stand place) cell value size h s =
    unfilled_unshown v.size (Standing c) place (clue_of v place) cell value h.unfilled
    (subst (λ w. CanShow w (Standing c) place cell value (clue_of v place)) size s)
towers_unshown v c (Clue place) cell value size h s =
    unfilled_unshown v.size (IsLeft c) place (clue_of v place) cell value h.unfilled
    (subst (λ w. CanShow w (IsLeft c) place cell value (clue_of v place)) size s)
towers_unshown v c reason cell value size h s = s

pub towers_told : (v : TowersValue) (c : CandidatesValue) (reason : Reason) (cell value : ℕ) → c.size ≡ v.size
    → 0 < reason_clue (clue_of v) reason
    → IsInView v.size reason cell → (IsShownBy c reason cell value (reason_clue (clue_of v) reason) → ⊥)
    → IsTowersStruckBy v c reason cell value
towers_told v c (Bound place) cell value size some seen none = record {
  place_is = seen.edge;
  clued = some;
  unfilled = unshown_unfilled v.size Anything place (clue_of v place) cell value seen
      (λ s. none (subst (λ w. CanShow w Anything place cell value (clue_of v place)) (sym size) s));
}
towers_told v c (Stand place) cell value size some seen none = record {
  place_is = seen.edge;
  clued = some;
  unfilled = unshown_unfilled v.size (Standing c) place (clue_of v place) cell value seen
      (λ s. none (subst (λ w. CanShow w (Standing c) place cell value (clue_of v place)) (sym size) s));
}
towers_told v c (Clue place) cell value size some seen none = record {
  place_is = seen.edge;
  clued = some;
  unfilled = unshown_unfilled v.size (IsLeft c) place (clue_of v place) cell value seen
      (λ s. none (subst (λ w. CanShow w (IsLeft c) place cell value (clue_of v place)) (sym size) s));
}
towers_told v c reason cell value size some seen none = absurd seen

-- in Unequal no reason has a clue that strikes
pub unequal_unshown : (v : UnequalValue) (c : CandidatesValue) (reason : Reason) (cell value : ℕ) → c.size ≡ v.size
    → IsUnequalStruckBy v c reason cell value
    → IsShownBy c reason cell value (reason_clue (λ _. zero) reason) → ⊥
unequal_unshown v c (Bound place) cell value size h s = h
unequal_unshown v c (Stand place) cell value size h s = h
unequal_unshown v c (Clue place) cell value size h s = h
unequal_unshown v c reason cell value size h s = s

no_clue : (reason : Reason) → 0 < reason_clue (λ _. zero) reason → ⊥
no_clue (Given at) some = omega (arith, some)
no_clue reason some = omega (arith, some)

pub unequal_told : (v : UnequalValue) (c : CandidatesValue) (reason : Reason) (cell value : ℕ) → c.size ≡ v.size
    → 0 < reason_clue (λ _. zero) reason
    → IsInView v.size reason cell → (IsShownBy c reason cell value (reason_clue (λ _. zero) reason) → ⊥)
    → IsUnequalStruckBy v c reason cell value
unequal_told v c reason cell value size some seen none = absurd (no_clue reason some)
