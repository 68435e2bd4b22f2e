-- Steps are told alike by candidates of which the same is left.
use Rattle.std.proofs.Common.{◌≡◌, ◌<◌, ◌*◌, ◌+◌, ℕ, List, [], ◌∷◌, sym, ap, ◌∙◌, subst, Option, Some, None}
use Rattle.trail_solver.specs.Candidates.{CandidatesValue}
use Rattle.line_steps.specs.Left.{IsLeft, IsFewer, AreAlike}
use Rattle.towers_game.specs.Fillings.{Anything, Standing}
use Rattle.line_steps.specs.declared.reason.Reason.{Reason}
use Rattle.line_steps.specs.declared.reason.Reason.TheVariants.{Bound, Stand, Clue}
use Rattle.step_chains.specs.declared.chain.Step.{Step}
use Rattle.shown_counts.specs.Shown.{CanShow, IsShownBy, is_at_clue}
use Rattle.step_texts.specs.declared.told.KnownSquare.{KnownSquare}
use Rattle.step_texts.specs.declared.told.Strike.{Strike}
use Rattle.step_texts.specs.declared.told.ToldStep.{ToldStep}
use Rattle.step_texts.specs.Told.{AreToldCounts, AreToldStrikes, AreKnown, IsToldOf}

-- a count that a line can show it can show where more may stand
shown_more : (w : ℕ) (May More : ℕ → ℕ → Type 0) (place cell v count : ℕ) → ((at n : ℕ) → May at n → More at n) → CanShow w May place cell v count
    → CanShow w More place cell v count
shown_more w May More place cell v count more s =
    let f = s.filling in
    record {
      edge = s.edge;
      index = s.index;
      inside = s.inside;
      here = s.here;
      line = s.line;
      filling = record { whole = f.whole; pairs = f.pairs; may = λ k low. more _ _ (f.may k low); apart = f.apart; shown = f.shown };
      there = s.there;
    }

-- a count that is shown by some candidates is shown where more is left
shown_left : (c d : CandidatesValue) → c.size ≡ d.size → IsFewer d c → (reason : Reason) (cell v count : ℕ) → IsShownBy c reason cell v count
    → IsShownBy d reason cell v count
shown_left c d size fewer (Bound place) cell v count s = subst (λ w. CanShow w Anything place cell v count) size s
shown_left c d size fewer (Stand place) cell v count s =
    shown_more d.size (Standing c) (Standing d) place cell v count (λ at n stands alone none. stands alone (λ other left. none other (fewer at other left)))
    (subst (λ w. CanShow w (Standing c) place cell v count) size s)
shown_left c d size fewer (Clue place) cell v count s =
    shown_more d.size (IsLeft c) (IsLeft d) place cell v count fewer (subst (λ w. CanShow w (IsLeft c) place cell v count) size s)
shown_left c d size fewer reason cell v count s = s

-- counts that are told by some candidates are told by others of which the same is left
counts_alike : (c d : CandidatesValue) → c.size ≡ d.size → AreAlike c d → (reason : Reason) (cell values : ℕ) (shows : Option (List ℕ))
    → AreToldCounts c reason cell values shows → AreToldCounts d reason cell values shows
counts_alike c d size alike reason cell values None told = ap (λ w. is_at_clue w reason) (sym size) ∙ told
counts_alike c d size alike reason cell values (Some shows) told = (
  ap (λ w. is_at_clue w reason) (sym size) ∙ told.0,
  λ v count one. (
    λ has. shown_left c d size alike.1 reason cell v count ((told.1 v count one).0 has),
    λ s. (told.1 v count one).1 (shown_left d c (sym size) alike.0 reason cell v count s),
  ),
)

-- strikes that are told by some candidates are told by others of which the same is left
strikes_alike : (c d : CandidatesValue) → c.size ≡ d.size → AreAlike c d → (reason : Reason) (steps : List Step) (strikes : List Strike)
    → AreToldStrikes c reason steps strikes → AreToldStrikes d reason steps strikes
strikes_alike c d size alike reason [] [] told = told
strikes_alike c d size alike reason [] (strike ∷ strikes) told = told
strikes_alike c d size alike reason (step ∷ steps) [] told = told
strikes_alike c d size alike reason (step ∷ steps) (strike ∷ strikes) told = (
  record {
    cell = told.0.cell;
    values = told.0.values;
    low = told.0.low;
    shows = counts_alike c d size alike reason step.cell step.values strike.shows told.0.shows;
  },
  strikes_alike c d size alike reason steps strikes told.1,
)

-- squares that are known by some candidates are known by others of which the same is left
known_alike : (c d : CandidatesValue) → c.size ≡ d.size → AreAlike c d → (from : ℕ) (squares : List KnownSquare)
    → AreKnown c from squares → AreKnown d from squares
known_alike c d size alike from [] are = are
known_alike c d size alike from (square ∷ squares) (after, is, more) = (
  after,
  record {
    inside = subst (λ w. square.cell < w * w) size is.inside;
    left = λ v. (
      λ has. alike.1 square.cell v ((is.left v).0 has),
      λ left. (is.left v).1 (alike.0 square.cell v left),
    );
  },
  known_alike c d size alike (square.cell + 1) squares more,
)

-- a step that is told by some candidates is told by others of which the same is left
pub told_alike : (c d : CandidatesValue) → c.size ≡ d.size → AreAlike c d → (reason : Reason) (look : List Step) (told : ToldStep)
    → IsToldOf c reason look told → IsToldOf d reason look told
told_alike c d size alike reason look told t = record {
  reason = t.reason;
  strikes = strikes_alike c d size alike reason look told.strikes.items t.strikes;
  known = known_alike c d size alike 0 told.known.items t.known;
  some = t.some;
  short = t.short;
}
