-- The items that `spare` lists, and the object that tells them.
use Rattle.std.specs.Prelude.{◌↔◌, ◌≡◌, ℕ, ◌+◌, ◌*◌, ◌<◌, nat_lt, Bool, false, if◌then◌else◌, IsTrue, slice_index_or, List, [], ◌++◌, codes, Option, Some, None}
use Rattle.std.specs.List.{range_with_len}
use Rattle.serde_json.specs.Data.{Data, number, object, no_members, member}
use Rattle.serde_json.specs.Find.{of_integer}
use Rattle.latin_board.specs.Edges.{edge_xy}
use Rattle.trail_solver.specs.Answers.{Fits}
use Rattle.trail_solver.specs.Puzzles.{Puzzle, Solves}
use Rattle.trail_solver.specs.declared.answer.Answer.TheVariants.{None as NoSolution, One, Several}
use Rattle.trail_solver.specs.declared.rules.Rules.{Ghosts}
use Rattle.line_steps.specs.Reasons.{Striking}
use Rattle.needed_items.specs.declared.items.Items.{Ghosts as OfItems}
use Rattle.needed_items.specs.Needed.{IsSpare, HasOnly, HasSome}
use Rattle.fair_games.specs.FairGames.{IsByGrade}
use Rattle.json_replies.specs.declared.listed_items.Listing.{Listing}
use Rattle.json_replies.specs.declared.listed_items.Listing.TheVariants.{ByAnswer, ByGrade}
use Rattle.json_replies.specs.Boards.{listed_data, when, squares}
use Rattle.json_replies.specs.Counts.{count_data}

-- an item is listed if the puzzle without it passes this test: where there is one solution, that it is still the only
-- one; where there is none, that there is some; where there are several, none is listed; by a grade, that it follows by it
abbrev pub Passes : {P : Type 0} → Ghosts P → (P → Striking) → Listing → P → Type 0
Passes f Struck (ByAnswer (One g)) p = HasOnly f g p
Passes f Struck (ByAnswer NoSolution) p = HasSome f p
Passes f Struck (ByAnswer (Several g h)) p = ⊥
Passes f Struck (ByGrade grade) p = IsByGrade f Struck grade p

-- ---- the object

-- the data where there is an item that is listed
abbrev pub when_listed : (ℕ → Bool) → Option ℕ → Data → List Data
when_listed listed None d = []
when_listed listed (Some i) d = when (listed i) d

-- a place of the edge, as in a move
abbrev pub place_data : ℕ → ℕ → Data
place_data w place = object
    (member (codes "x") (number (of_integer (edge_xy w place).0))
    (member (codes "y") (number (of_integer (edge_xy w place).1))
    no_members))

-- the squares of a sign
abbrev pub ends_data : ℕ → ℕ → Data
ends_data greater less = object (member (codes "greater") (count_data greater) (member (codes "less") (count_data less) no_members))

-- the sign between a square and a later number, if that is a square and the sign is listed
abbrev pub sign_data : {P : Type 0} → OfItems P → (ℕ → ℕ → Bool) → ℕ → (ℕ → Bool) → ℕ → ℕ → List Data
sign_data items is_over w listed a b =
    if nat_lt b (w * w)
    then when_listed listed (items.sign_item_of w a b) (if is_over a b then ends_data a b else ends_data b a)
    else []

-- the clues, by their places
abbrev pub clues_listed : {P : Type 0} → OfItems P → ℕ → (ℕ → Bool) → Data
clues_listed items w listed =
    listed_data (λ place. when_listed listed (items.clue_item_of w place) (place_data w place)) (range_with_len 0 (4 * w))

-- the givens, by their squares
abbrev pub givens_listed : {P : Type 0} → OfItems P → ℕ → (ℕ → Bool) → Data
givens_listed items w listed =
    listed_data (λ cell. when (listed (items.given_item_of w cell)) (count_data cell)) (squares w)

-- the signs of a square to its right and below it
abbrev pub signs_at : {P : Type 0} → OfItems P → (ℕ → ℕ → Bool) → ℕ → (ℕ → Bool) → ℕ → List Data
signs_at items is_over w listed cell =
    sign_data items is_over w listed cell (cell + 1) ++ sign_data items is_over w listed cell (cell + w)

-- the signs, square by square
abbrev pub signs_listed : {P : Type 0} → OfItems P → (ℕ → ℕ → Bool) → ℕ → (ℕ → Bool) → Data
signs_listed items is_over w listed = listed_data (signs_at items is_over w listed) (squares w)

-- the clues, givens and signs that are listed, of a puzzle of a width
abbrev pub items_data : {P : Type 0} → OfItems P → (ℕ → ℕ → Bool) → ℕ → (ℕ → Bool) → Data
items_data items is_over w listed = object
    (member (codes "clues") (clues_listed items w listed)
    (member (codes "givens") (givens_listed items w listed)
    (member (codes "signs") (signs_listed items is_over w listed)
    no_members)))

-- what a list says of each item, in their order
abbrev pub listed_by : List Bool → ℕ → Bool
listed_by listed i = slice_index_or listed i false

-- an answer by which items are listed is the right one to how many solutions the puzzle has
abbrev pub IsListing : Puzzle → Listing → Type 0
IsListing p (ByAnswer found) = Fits (Solves p) found
IsListing p (ByGrade grade) = Unit {0}

-- these are the items of a puzzle that are listed
abbrev pub AreItemsListed : {P : Type 0} → Ghosts P → (P → Striking) → OfItems P → (ℕ → ℕ → Bool) → P → Listing → Data → Type 0
AreItemsListed f Struck items is_over p by answer =
    (listed : ℕ → Bool)
    × ((i : ℕ) → i < f.items_of (f.puzzle p).size → IsTrue (listed i) ↔ IsSpare f (Passes f Struck by) p i)
    × (answer ≡ items_data items is_over (f.puzzle p).size listed)
