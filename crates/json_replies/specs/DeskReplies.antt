-- The puzzles of a setter: a blank one, one with an item changed, one without what it can do without, one filled in.
use Rattle.std.specs.Prelude.{◌≡◌, ◌≢◌, ◌⊎◌, ℕ, ◌-◌, ◌*◌, ◌<◌, nat_lt, ◌||◌, ◌++◌, Bool, IsTrue, false, List, Option, Some, None}
use Rattle.game_texts.specs.declared.params.Params.{Params}
use Rattle.trail_solver.specs.Answers.{Fits}
use Rattle.latin_board.specs.Squares.{GridValue}
use Rattle.trail_solver.specs.Puzzles.{Solves}
use Rattle.trail_solver.specs.Solutions.{HasNoSolution, HasSeveralSolutions, IsOnlySolution}
use Rattle.trail_solver.specs.declared.answer.Answer.{Answer}
use Rattle.trail_solver.specs.declared.answer.Answer.TheVariants.{One}
use Rattle.trail_solver.specs.declared.rules.Rules.{Ghosts}
use Rattle.line_steps.specs.declared.grade.Grade.{Grade}
use Rattle.line_steps.specs.Reasons.{Striking}
use Rattle.needed_items.specs.declared.items.Items.{Ghosts as OfItems}
use Rattle.needed_items.specs.Needed.{IsThinned, HasOnly}
use Rattle.needed_items.specs.InTurn.{IsLeftInTurn, HasSeveral, falling}
use Rattle.fair_games.specs.FairGames.{IsBeyondGrade, IsByGrade}
use Rattle.json_replies.specs.declared.begin_refusal.BeginRefusal.{BeginRefusal}
use Rattle.json_replies.specs.declared.begin_refusal.BeginRefusal.TheVariants.{BadSize, BadLetter, OffGrid, OffRange, NoSolution, SeveralSolutions}
use Rattle.json_replies.specs.declared.begin_line.FirstTried.{FirstTried}
use Rattle.json_replies.specs.declared.begin_line.FirstTried.TheVariants.{Givens, Others}
use Rattle.json_replies.specs.declared.desk.Change.{Change}
use Rattle.json_replies.specs.declared.item_words.ItemNumbers.{ItemNumbers}
use Rattle.json_replies.specs.FairLines.{IsSizeWord, letter_at}
use Rattle.json_replies.specs.ItemChanges.{change_at}

-- parameters without a letter
abbrev pub plain_params : ℕ → Params
plain_params w = record { size = w; letter = None }

-- ---- blank

-- the puzzle is of the size that the word says, and no item of it says anything
pub record IsBlankOf {P : Type 0} (f : Ghosts P) (items : OfItems P) (word : List ℕ) (p : P) : Type 0 where
  pub size : IsSizeWord (f.puzzle p).size word
  pub valid : f.valid p
  pub none : (i : ℕ) → i < f.items_of (f.puzzle p).size → items.value_of p i ≡ 0

-- the word asks for no blank puzzle, since it says no size
abbrev pub IsNoBlank : List ℕ → BeginRefusal → Type 0
IsNoBlank word BadSize = (w : ℕ) → IsSizeWord w word → ⊥
IsNoBlank word refusal = ⊥

-- ---- item

-- the second puzzle has the first one's size; that item says the value, and each other one what it said. By the laws of
-- items it is the only such puzzle
pub record IsChanged {P : Type 0} (f : Ghosts P) (items : OfItems P) (i value : ℕ) (old new : P) : Type 0 where
  pub size : (f.puzzle new).size ≡ (f.puzzle old).size
  pub valid : f.valid new
  pub one : items.value_of new i ≡ value
  pub others : (j : ℕ) → j < f.items_of (f.puzzle old).size → j ≢ i → items.value_of new j ≡ items.value_of old j

-- the second puzzle is the first one with the change that the numbers of a line `item` ask for
pub record IsChangeOf {P : Type 0} (f : Ghosts P) (items : OfItems P) (numbers : ItemNumbers) (old new : P) : Type 0 where
  pub change : Change
  pub asked : change_at items (f.puzzle old).size numbers ≡ Some change
  pub fits : IsTrue change.fits
  pub changed : IsChanged f items change.item change.value old new

-- there is no such item of a puzzle of the width, or it can't say that
abbrev pub IsNoChange : {P : Type 0} → OfItems P → ℕ → ItemNumbers → BeginRefusal → Type 0
IsNoChange items w numbers OffGrid = change_at items w numbers ≡ None
IsNoChange items w numbers OffRange =
    (change : Change) × (change_at items w numbers ≡ Some change) × (change.fits ≡ false)
IsNoChange items w numbers refusal = ⊥

-- ---- thin

-- the second puzzle is what is left of the first where its items are tried from the last to the first
abbrev pub IsLeftBackwards : {P : Type 0} → Ghosts P → (P → Type 0) → P → P → Type 0
IsLeftBackwards f Fails old new = IsLeftInTurn f Fails (falling (f.items_of (f.puzzle old).size)) old new

-- what is left of the first puzzle, by how many solutions it has: where that is one, only what it needs
abbrev pub IsLeftOf : {P : Type 0} → Ghosts P → Answer → P → P → Type 0
IsLeftOf f (One g) old new = IsThinned f (HasOnly f g) old new × IsLeftBackwards f (HasSeveral f) old new
IsLeftOf f found old new = new ≡ old

-- the second puzzle is what `thin` leaves of the first, by how many solutions that has
abbrev pub IsThinOf : {P : Type 0} → Ghosts P → P → P → Type 0
IsThinOf f old new = (found : Answer) × Fits (Solves (f.puzzle old)) found × IsLeftOf f found old new

-- below which number items are tried before all others: clues and signs have the first numbers, givens the last
abbrev pub first_count : {P : Type 0} → Ghosts P → ℕ → FirstTried → ℕ
first_count f w Givens = 0
first_count f w Others = f.items_of w - w * w

-- the second puzzle is what is left of the first where these items are tried first, and then all, each time from the
-- last to the first
abbrev pub IsLeftWithFirst : {P : Type 0} → Ghosts P → (P → Type 0) → FirstTried → P → P → Type 0
IsLeftWithFirst f Fails first old new =
    let w = (f.puzzle old).size in
    IsLeftInTurn f Fails (falling (first_count f w first) ++ falling (f.items_of w)) old new

-- the second puzzle is what `thin` and a letter leave of the first: what it needs by that grade, or all of it
abbrev pub IsThinBy : {P : Type 0} → Ghosts P → (P → Striking) → (Grade → Option ℕ) → List ℕ → FirstTried → P → P → Type 0
IsThinBy f Struck letter word first old new =
    (grade : Grade) × (letter_at letter word ≡ Some grade)
    × ((IsThinned f (IsByGrade f Struck grade) old new × IsLeftWithFirst f (IsBeyondGrade f Struck grade) first old new)
    ⊎ (IsBeyondGrade f Struck grade old × (new ≡ old)))

-- the word is refused, since it is no letter of a grade
abbrev pub IsNoLetter : (Grade → Option ℕ) → List ℕ → BeginRefusal → Type 0
IsNoLetter letter word BadLetter = letter_at letter word ≡ None
IsNoLetter letter word refusal = ⊥

-- ---- fill

-- whether an item is in a puzzle once it is filled in: it is no given, or one that the puzzle has
abbrev pub is_filled_in : {P : Type 0} → Ghosts P → P → ℕ → Bool
is_filled_in f p i = nat_lt i (first_count f (f.puzzle p).size Others) || f.has p i

-- Of a solution of the first puzzle the second one has each clue or sign, and of its numbers those that are givens of the
-- first. The solution solves it: so a clue is what is seen there, and a sign stands as it does there.
pub record IsFilled {P : Type 0} (f : Ghosts P) (g : GridValue) (old new : P) : Type 0 where
  pub is_cut : new ≡ f.cut (f.full_of g) (is_filled_in f old)
  pub valid : f.valid new
  pub size : (f.puzzle new).size ≡ (f.puzzle old).size
  pub all : (i : ℕ) → i < first_count f (f.puzzle old).size Others → IsTrue (f.has new i)
  pub solves : Solves (f.puzzle new) g

-- the second puzzle is the first one filled in from its only solution
abbrev pub IsFillOf : {P : Type 0} → Ghosts P → P → P → Type 0
IsFillOf f old new = (g : GridValue) × IsOnlySolution (f.puzzle old) g × IsFilled f g old new

-- the puzzle isn't filled in, since it has no solution or several
abbrev pub IsNoFill : {P : Type 0} → Ghosts P → P → BeginRefusal → Type 0
IsNoFill f p NoSolution = HasNoSolution (f.puzzle p)
IsNoFill f p SeveralSolutions = HasSeveralSolutions (f.puzzle p)
IsNoFill f p refusal = ⊥
