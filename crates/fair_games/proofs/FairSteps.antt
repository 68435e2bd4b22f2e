-- Draws, one after the other, until one gives a game of the grade; and that there is just one such game.
use Rattle.std.proofs.lemmas.Bool.Decides.{nat_tests}
use Rattle.std.proofs.Common.{◌≡◌, ℕ, zero, suc, ◌+◌, ◌<◌, Bool, true, false, List, [], Option, Some, None, IfSome, MatchOption, Result, Ok, Err, inl, inr, refl, sym, ◌∙◌, ap, subst, arith, ◌-◌, ◌*◌, ◌≤◌, not, IsTrue, ◌↔◌}
use Rattle.std.proofs.lemmas.Bool.{both_ways, cases_eq, cases_order, false≢true}
use Rattle.latin_board.specs.Squares.{GridValue}
use Rattle.trail_solver.specs.Puzzles.{Puzzle}
use Rattle.trail_solver.specs.Solutions.{IsOnlySolution}
use Rattle.trail_solver.specs.declared.rules.Rules.{Ghosts}
use Rattle.rand_core.specs.Stream.{Stream}
use Rattle.needed_items.proofs.ItemLaws.{ItemLaws}
use Rattle.needed_items.proofs.InTurn.{in_turn_once}
use Rattle.named_steps.specs.Following.{Follows}
use Rattle.line_steps.specs.Grades.{rank}
use Rattle.named_steps.specs.Graded.{FollowsBy, IsGradeOf}
use Rattle.named_steps.proofs.Followed.{follows_only}
use Rattle.named_steps.proofs.Solutions.{graded_next}
use Rattle.line_steps.specs.declared.grade.Grade.{Grade}
use Rattle.line_steps.specs.declared.grade.Grade.TheVariants.{Latin, Easy, Hard}
use Rattle.puzzle_gen.specs.SeededSquares.{drawn_order}
use Rattle.fair_games.specs.Squares.{drawn_rows, first_row, with_first_row}
use Rattle.fair_games.proofs.RowSteps.{with_row_size}
use Rattle.fair_games.specs.Draws.{drawn_game, stream_after, draw_at}
use Rattle.fair_games.specs.FairGames.{IsFairGame, IsOfGrade, IsTriedIn, NeedsItems}
use Rattle.fair_games.specs.Fair.{FailsBy, IsPrunedGame, IsPassedOver, IsFair, IsFairResult}
use Rattle.fair_games.specs.Pruned.{IsTried, IsPrunedBy}
use Rattle.fair_games.specs.declared.trial.Trial.{Trial}
use Rattle.fair_games.specs.declared.fair_fault.FairFault.{FairFault}
use Rattle.fair_games.specs.declared.fair_fault.FairFault.TheVariants.{NotOffered, NoneFound}
use Rattle.fair_games.proofs.PruneSteps.{HasSteps, IsCutOf, pruned_cut, pruned_needs, square_follows}
use Rattle.line_steps.specs.Reasons.{Striking}

-- ---- draws

-- a draw from the stream after k draws leaves the stream after k + 1
pub next_left : (trial : Trial) (w items k : ℕ) (s now next : Stream) → now ≡ stream_after trial w items k s
    → next ≡ (drawn_game trial w items now).1 → next ≡ stream_after trial w items (k + 1) s
next_left trial w items k s now next so_far drew = grind (arith, nat_tests)

-- the draw from the stream that is left after k draws is draw k, counted from 0
drawn_now : (trial : Trial) (w items k : ℕ) (s now : Stream) → now ≡ stream_after trial w items k s
    → (drawn_game trial w items now).0 ≡ draw_at trial w items s k
drawn_now trial w items k s now so_far = ap (λ (t : Stream). (drawn_game trial w items t).0) so_far

-- if the pruned puzzle of the next draw is of another grade, this draw is passed over like those before it
pub next_passed : {P : Type 0} (f : Ghosts P) (Struck : P → Striking) (grade : Grade) (trial : Trial) (w items k : ℕ)
    (s now : Stream) (p : P) → now ≡ stream_after trial w items k s → IsPrunedGame f Struck grade (drawn_game trial w items now).0 p
    → (IsOfGrade f Struck grade p → ⊥) → ((n : ℕ) → n < k → IsPassedOver f Struck grade (draw_at trial w items s n))
    → (n : ℕ) → n < k + 1 → IsPassedOver f Struck grade (draw_at trial w items s n)
next_passed f Struck grade trial w items k s now p so_far pruned other before n below =
    elim (cases_eq n k) [
      | inl here ↦ subst (λ (m : ℕ). IsPassedOver f Struck grade (draw_at trial w items s m)) (sym here) (record {
        puzzle = p;
        pruned = subst (λ (d : GridValue × List ℕ). IsPrunedGame f Struck grade d p) (drawn_now trial w items k s now so_far) pruned;
        other = other;
      })
      | inr apart ↦ before n (omega (arith, below, apart))
    ]

-- if the pruned puzzle of a draw is of the grade, and all before it are passed over, it is the fair game
pub found_fair : {P : Type 0} (f : Ghosts P) (Struck : P → Striking) (grade : Grade) (trial : Trial) (w items k : ℕ)
    (s now : Stream) (p : P) → now ≡ stream_after trial w items k s → IsPrunedGame f Struck grade (drawn_game trial w items now).0 p
    → IsOfGrade f Struck grade p → ((n : ℕ) → n < k → IsPassedOver f Struck grade (draw_at trial w items s n)) → k < 512
    → IsFair f Struck grade (draw_at trial w items s) p
found_fair f Struck grade trial w items k s now p so_far pruned graded before few = grind (arith, nat_tests, drawn_now)

-- ---- there is just one

-- a draw has just one pruned puzzle
game_once : {P : Type 0} (f : Ghosts P) (Struck : P → Striking) (grade : Grade) (draw : GridValue × List ℕ) (p q : P)
    → IsPrunedGame f Struck grade draw p → IsPrunedGame f Struck grade draw q → p ≡ q
game_once f Struck grade draw p q first second =
    in_turn_once f (FailsBy Struck grade draw.0) draw.1 (f.full_of draw.0) p q first.in_turn second.in_turn

-- a draw that gives a game of the grade isn't passed over
not_passed : {P : Type 0} (f : Ghosts P) (Struck : P → Striking) (grade : Grade) (draw : GridValue × List ℕ) (p : P)
    → IsPrunedGame f Struck grade draw p → IsOfGrade f Struck grade p → IsPassedOver f Struck grade draw → ⊥
not_passed f Struck grade draw p pruned graded passed = grind (arith, nat_tests, game_once)

-- two fair games of the same draws are the same
fair_same : {P : Type 0} (f : Ghosts P) (Struck : P → Striking) (grade : Grade) (draws : ℕ → GridValue × List ℕ) (p q : P)
    → IsFair f Struck grade draws p → IsFair f Struck grade draws q → p ≡ q
fair_same f Struck grade draws p q first second = grind (arith, nat_tests, cases_order, game_once, not_passed)

-- two results of the same draws are the same
pub fair_once : {P : Type 0} (f : Ghosts P) (Struck : P → Striking) (grade : Grade) (offered : Bool)
    (draws : ℕ → GridValue × List ℕ) (r s : Result P FairFault) → IsFairResult f Struck grade offered draws r
    → IsFairResult f Struck grade offered draws s → r ≡ s
fair_once f Struck grade offered draws (Ok p) (Ok q) first second =
    ap Ok (fair_same f Struck grade draws p q first.1 second.1)
fair_once f Struck grade offered draws (Ok p) (Err NotOffered) first second = absurd (both_ways offered second first.0)
fair_once f Struck grade offered draws (Ok p) (Err NoneFound) first second =
    let fair = first.1 in
    absurd (not_passed f Struck grade (draws fair.draw) p fair.pruned fair.graded (second.1 fair.draw fair.few))
fair_once f Struck grade offered draws (Err NotOffered) (Ok q) first second = absurd (both_ways offered first second.0)
fair_once f Struck grade offered draws (Err NotOffered) (Err NotOffered) first second = refl
fair_once f Struck grade offered draws (Err NotOffered) (Err NoneFound) first second =
    absurd (both_ways offered first second.0)
fair_once f Struck grade offered draws (Err NoneFound) (Ok q) first second =
    let fair = second.1 in
    absurd (not_passed f Struck grade (draws fair.draw) q fair.pruned fair.graded (first.1 fair.draw fair.few))
fair_once f Struck grade offered draws (Err NoneFound) (Err NotOffered) first second =
    absurd (both_ways offered second first.0)
fair_once f Struck grade offered draws (Err NoneFound) (Err NoneFound) first second = refl

-- ---- the test of a grade

-- a puzzle that follows by a grade is of that grade exactly if it doesn't follow by the one before
pub graded_tested : (p : Puzzle) (Struck : Striking) (before grade : Grade) (b : Bool) → rank grade ≡ rank before + 1 → FollowsBy p Struck grade
    → (IsTrue b ↔ FollowsBy p Struck before) → IsTrue (not b) ↔ IsGradeOf p Struck (Some grade)
graded_tested p Struck before grade true next follows is = (λ e. absurd (false≢true e), λ h. absurd (h.1 before (omega (arith, next)) (is.0 refl)))
graded_tested p Struck before grade false next follows is =
    (λ e. graded_next p Struck before grade next follows (λ less. false≢true (is.1 less)), λ h. refl)

-- a test for one grade serves for a grade that equals it
pub is_graded : {B : Type 0} (p : Puzzle) (Struck : Striking) (one grade : Grade) → grade ≡ one → FollowsBy p Struck grade
    → (FollowsBy p Struck one → B ↔ IsGradeOf p Struck (Some one)) → B ↔ IsGradeOf p Struck (Some grade)
is_graded {B} p Struck one grade same follows test =
    subst (λ (g : Grade). B ↔ IsGradeOf p Struck (Some g)) (sym same) (test (subst (λ (g : Grade). FollowsBy p Struck g) same follows))

-- ---- the fair game and its solution

-- a fair game is a cut of the full puzzle of its draw's square
pub fair_puzzle : {P : Type 0} (f : Ghosts P) (Struck : P → Striking) (grade : Grade) (draws : ℕ → GridValue × List ℕ) (p : P)
    → ItemLaws f → (fair : IsFair f Struck grade draws p) → IsCutOf f (draws fair.draw).0 p
fair_puzzle f Struck grade draws p laws fair =
    pruned_cut f (FailsBy Struck grade (draws fair.draw).0) (draws fair.draw).0 (draws fair.draw).1 p laws fair.pruned

-- a fair game has just one solution, and this follows by the grade
pub fair_solved : {P : Type 0} (f : Ghosts P) (Struck : P → Striking) → HasSteps f Struck → (grade : Grade)
    (draws : ℕ → GridValue × List ℕ) (p : P) → IsFair f Struck grade draws p
    → (g : GridValue) × (IsOnlySolution (f.puzzle p) g × Follows (Struck p) grade g)
fair_solved f Struck steps grade draws p fair =
    let (g, solution) = fair.graded.0 in
    let cut = fair_puzzle f Struck grade draws p steps.items fair in
    (g, (follows_only (f.puzzle p) (Struck p) (steps.sound p cut.valid) grade g solution.follows solution.solves, solution.follows))

-- ---- sizes

-- a grid with a row more has the same size
row_size : (g : GridValue) (row : ℕ) (columns : List ℕ) (found : Option (List ℕ)) → (with_first_row g row columns found).size ≡ g.size
row_size g row columns None = refl
row_size g row columns (Some chosen) = with_row_size g row columns chosen g.size

-- a grid of drawn rows has the width
rows_size : (w n : ℕ) (s : Stream) → (drawn_rows w n s).0.size ≡ w
rows_size w zero s = refl
rows_size w (suc n) s =
    let before = drawn_rows w n s in
    let columns = drawn_order before.0.size before.1 in
    let numbers = drawn_order before.0.size columns.1 in
    row_size before.0 n columns.0 (first_row before.0 numbers.0 columns.0 []) ∙ rows_size w n s

-- a draw's square has the width
pub draw_size : (trial : Trial) (w items : ℕ) (s : Stream) (n : ℕ) → (draw_at trial w items s n).0.size ≡ w
draw_size trial w items s n = grind (arith, nat_tests, rows_size)

-- ---- grades

-- a property that none of the three grades has no grade has
pub no_grade : (Is : Grade → Type 0) → (Is Latin → ⊥) → (Is Easy → ⊥) → (Is Hard → ⊥) → (grade : Grade) → Is grade → ⊥
no_grade Is latin easy hard grade is = grind (arith, nat_tests)

-- ---- the items that are needed

-- a pruned puzzle of an order that has all items to be tried needs each of these
pub game_needs : {P : Type 0} (f : Ghosts P) (Struck : P → Striking) → HasSteps f Struck → (grade : Grade)
    (trial : Trial) (w : ℕ) (g : GridValue) (order : List ℕ) (p : P) → g.size ≡ w → IsPrunedBy f (FailsBy Struck grade g) g order p
    → ((i : ℕ) → i < f.items_of w → IsTriedIn trial (f.items_of w - w * w) i → IsTried i order)
    → NeedsItems f Struck grade trial w p
game_needs {P} f Struck steps grade trial w g order p size pruned tried = λ keep i below there low lost follows.
    let small : i < f.items_of g.size = subst (λ (n : ℕ). i < f.items_of n) (sym size) below in
    let fails = pruned_needs f Struck steps grade g order p keep i pruned small there (tried i below low) lost in
    let whole = pruned_cut f (FailsBy Struck grade g) g order p steps.items pruned in
    let valid = steps.items.cut_valid p keep whole.valid in
    let solves = steps.items.cut_solved p keep g whole.valid whole.solves in
    fails (square_follows f Struck steps grade g (f.cut p keep) valid solves follows)

pub all_items : (count items cells squares i : ℕ) → count ≡ items → cells ≡ squares → squares ≤ items → i < items → i < count - cells + cells
all_items count items cells squares i same also some below = omega (arith, same, also, some, below)

pub first_given : (count items cells squares i : ℕ) → count ≡ items → cells ≡ squares → items - squares ≤ i → count - cells ≤ i
first_given count items cells squares i same also from = omega (arith, same, also, from)

-- ---- the promise of a fair game

-- the puzzle of the first draw that gives one of the grade keeps all that a fair game promises
pub all_promised : {P : Type 0} (f : Ghosts P) (Struck : P → Striking) → HasSteps f Struck → (grade : Grade) (trial : Trial) (w : ℕ)
    (s : Stream) (r : Option P) (None_is : Type 0) → IfSome r (NeedsItems f Struck grade trial w)
    → MatchOption r None_is (IsFair f Struck grade (draw_at trial w (f.items_of w) s)) → IfSome r (IsFairGame f Struck grade trial w)
all_promised f Struck steps grade trial w s None None_is needed fair = tt
all_promised f Struck steps grade trial w s (Some p) None_is needed fair =
    let draws = draw_at trial w (f.items_of w) s in
    let (solution, solved) = fair_solved f Struck steps grade draws p fair in
    record {
      size = (fair_puzzle f Struck grade draws p steps.items fair).size ∙ draw_size trial w (f.items_of w) s fair.draw;
      solution = solution;
      only = solved.0;
      follows = solved.1;
      graded = fair.graded;
      needed = needed;
    }
