-- Lemmas on pruning, for games whose steps have reasons.
use Rattle.std.proofs.lemmas.Bool.Decides.{nat_tests}
use Rattle.std.proofs.Common.{◌≡◌, ◌≢◌, ℕ, ◌<◌, Bool, false, List, [], ◌∷◌, IsTrue, inl, inr, sym, subst, arith}
use Rattle.latin_board.specs.Squares.{GridValue, IsGrid, IsLatin, number_at}
use Rattle.trail_solver.specs.Candidates.{CandidatesValue, IsWithin}
use Rattle.trail_solver.specs.Puzzles.{Solves}
use Rattle.trail_solver.specs.declared.rules.Rules.{Ghosts}
use Rattle.needed_items.specs.Needed.{all_but}
use Rattle.needed_items.specs.InTurn.{IsLeftInTurn}
use Rattle.needed_items.proofs.ItemLaws.{ItemLaws}
use Rattle.needed_items.proofs.InTurn.{KeepsFailing, cut_in_turn, needed_in_turn}
use Rattle.puzzle_gen.specs.Orders.{place_in}
use Rattle.line_steps.specs.Reasons.{StruckBy, Striking}
use Rattle.line_steps.specs.Left.{IsFewer}
use Rattle.line_steps.specs.Laws.Cuts.{all_whole}
use Rattle.line_steps.specs.Laws.Less.{all_less}
use Rattle.line_steps.specs.Laws.Sound.{all_sound}
use Rattle.line_steps.proofs.Chains.{IsAntitone}
use Rattle.line_steps.proofs.KeptSolutions.{IsSoundFor}
use Rattle.line_steps.specs.declared.reason.Reason.{Reason}
use Rattle.line_steps.specs.declared.grade.Grade.{Grade}
use Rattle.named_steps.specs.Following.{Follows}
use Rattle.named_steps.proofs.Followed.{follows_more, follows_only}
use Rattle.fair_games.specs.Fair.{FailsBy}
use Rattle.fair_games.specs.FairGames.{IsBeyondGrade, IsByGrade}
use Rattle.fair_games.specs.Pruned.{IsPrunedBy, IsTried}

-- the laws of a game's items and of its steps
pub record HasSteps {P : Type 0} (f : Ghosts P) (Struck : P → Striking) : Type 0 where
  pub items : ItemLaws f
  pub less : (p : P) → IsAntitone (Struck p)
  pub sound : (p : P) → f.valid p → IsSoundFor (f.puzzle p) (Struck p)
  pub cut : (p : P) (keep : ℕ → Bool) (c : CandidatesValue) (reason : Reason) (cell value : ℕ)
      → Struck (f.cut p keep) c reason cell value → Struck p c reason cell value

-- a game whose items and own reasons keep these laws keeps them of all its steps
pub steps_of : {P : Type 0} (f : Ghosts P) (Own : P → Striking) → ItemLaws f
    → ((p : P) (c d : CandidatesValue) (reason : Reason) (cell value : ℕ) → IsFewer c d → Own p c reason cell value → Own p d reason cell value)
    → ((p : P) (c : CandidatesValue) (reason : Reason) (cell value : ℕ) (g : GridValue) → f.valid p → c.size ≡ (f.puzzle p).size
    → Solves (f.puzzle p) g → IsWithin c g → Own p c reason cell value → number_at g cell ≢ value)
    → ((p : P) (keep : ℕ → Bool) (c : CandidatesValue) (reason : Reason) (cell value : ℕ) → Own (f.cut p keep) c reason cell value
    → Own p c reason cell value)
    → HasSteps f (StruckBy f.puzzle Own)
steps_of f Own items less sound whole = record {
  items = items;
  less = λ p. all_less (f.puzzle p) (Own p) (less p);
  sound = λ p valid. all_sound (f.puzzle p) (Own p) (λ c reason cell value g. sound p c reason cell value g valid);
  cut = λ p keep. all_whole (f.puzzle (f.cut p keep)) (f.puzzle p) (Own (f.cut p keep)) (Own p) (items.cut_size p keep) (items.givens_cut p keep)
      (whole p keep);
}

-- a puzzle that fails fails without some of its items, too
pub fewer_fail : {P : Type 0} (f : Ghosts P) (Struck : P → Striking) → HasSteps f Struck → (grade : Grade) (g : GridValue)
    (r : P) (keep : ℕ → Bool) → FailsBy Struck grade g r → FailsBy Struck grade g (f.cut r keep)
fewer_fail f Struck steps grade g r keep fails follows =
    fails (follows_more (Struck (f.cut r keep)) (Struck r) (steps.cut r keep) grade g follows)

-- a square that solves a puzzle follows by each grade by which the puzzle follows, since it is the only one
pub square_follows : {P : Type 0} (f : Ghosts P) (Struck : P → Striking) → HasSteps f Struck → (grade : Grade)
    (g : GridValue) (p : P) → f.valid p → Solves (f.puzzle p) g → IsByGrade f Struck grade p → Follows (Struck p) grade g
square_follows f Struck steps grade g p valid solves by =
    let only = follows_only (f.puzzle p) (Struck p) (steps.sound p valid) grade by.0 by.1.follows by.1.solves in
    subst (Follows (Struck p) grade) (sym (only.only g solves)) by.1.follows

-- if a puzzle follows by a grade, but not without some of its items, it doesn't without more of them either
pub beyond_kept : {P : Type 0} (f : Ghosts P) (Struck : P → Striking) → HasSteps f Struck → (grade : Grade) (p : P)
    → f.valid p
    → IsByGrade f Struck grade p → KeepsFailing f (IsBeyondGrade f Struck grade) p
beyond_kept f Struck steps grade p valid whole a b beyond twice =
    let q = f.cut p a in
    let rest = f.cut q b in
    let q_valid = steps.items.cut_valid p a valid in
    let solves : Solves (f.puzzle q) whole.0 = steps.items.cut_solved p a whole.0 valid whole.1.solves in
    let follows : Follows (Struck rest) grade whole.0 =
    square_follows f Struck steps grade whole.0 rest (steps.items.cut_valid q b q_valid)
    (steps.items.cut_solved q b whole.0 q_valid solves) twice in
    beyond (whole.0, record { solves = solves; follows = follows_more (Struck rest) (Struck q) (steps.cut q b) grade whole.0 follows })

-- the puzzle is of the Latin square's size, and the square solves it, as it does each cut of its full puzzle
pub record IsCutOf {P : Type 0} (f : Ghosts P) (g : GridValue) (p : P) : Type 0 where
  pub valid : f.valid p
  pub size : (f.puzzle p).size ≡ g.size
  pub solves : Solves (f.puzzle p) g

-- a cut of a Latin square's full puzzle is a puzzle that the square solves
pub cut_of : {P : Type 0} (f : Ghosts P) (g : GridValue) (p : P) (keep : ℕ → Bool) → ItemLaws f → IsGrid g → IsLatin g
    → p ≡ f.cut (f.full_of g) keep → IsCutOf f g p
cut_of f g p keep laws grid latin is_cut = grind (arith, nat_tests)

-- the pruned puzzle of a square and an order is a puzzle of the size that the square solves
pub pruned_cut : {P : Type 0} (f : Ghosts P) (Fails : P → Type 0) (g : GridValue) (order : List ℕ) (p : P) → ItemLaws f
    → IsPrunedBy f Fails g order p → IsCutOf f g p
pruned_cut f Fails g order p laws pruned = grind (arith, nat_tests, cut_of, cut_in_turn)

-- a pruned puzzle fails once some of its items go, if one of them was tried
pub pruned_needs : {P : Type 0} (f : Ghosts P) (Struck : P → Striking) → HasSteps f Struck → (grade : Grade)
    (g : GridValue) (order : List ℕ) (p : P) (keep : ℕ → Bool) (i : ℕ) → IsPrunedBy f (FailsBy Struck grade g) g order p
    → i < f.items_of g.size → IsTrue (f.has p i) → IsTried i order → keep i ≡ false
    → FailsBy Struck grade g (f.cut p keep)
pruned_needs f Struck steps grade g order p keep i pruned small there tried lost =
    let full = f.full_of g in
    let size = steps.items.full_size g pruned.is_grid pruned.is_latin in
    needed_in_turn f (FailsBy Struck grade g) order full p (place_in i order) i keep steps.items
    (steps.items.full_valid g pruned.is_grid pruned.is_latin)
    (λ a b. fewer_fail f Struck steps grade g (f.cut full a) b) pruned.in_turn tried
    (pruned.is_trial.back i tried) (subst (λ (n : ℕ). i < f.items_of n) (sym size) small) there lost

-- items that are tried by whether the rest follows by the grade are tried by whether a square does that solves the puzzle
pub tried_by_square : {P : Type 0} (f : Ghosts P) (Struck : P → Striking) → HasSteps f Struck → (grade : Grade)
    (g : GridValue) (order : List ℕ) (p q : P) → f.valid p → Solves (f.puzzle p) g
    → IsLeftInTurn f (IsBeyondGrade f Struck grade) order p q → IsLeftInTurn f (FailsBy Struck grade g) order p q
tried_by_square f Struck steps grade g [] p q valid solves same = same
tried_by_square f Struck steps grade g (item ∷ order) p q valid solves tried =
    let rest = f.cut p (all_but item) in
    let rest_valid = steps.items.cut_valid p (all_but item) valid in
    let rest_solves = steps.items.cut_solved p (all_but item) g valid solves in
    elim tried [
      | inl stays ↦ inl (
        λ follows. stays.0 (g, record { solves = rest_solves; follows = follows }),
        tried_by_square f Struck steps grade g order p q valid solves stays.1,
      )
      | inr goes ↦ inr (
        λ fails. goes.0 (λ by. fails (square_follows f Struck steps grade g rest rest_valid rest_solves by)),
        tried_by_square f Struck steps grade g order rest q rest_valid rest_solves goes.1,
      )
    ]
