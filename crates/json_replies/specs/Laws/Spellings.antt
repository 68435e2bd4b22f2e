-- Which data have one text: those without floats that are not too deep.
use Rattle.std.proofs.Common.{◌≡◌, ℕ, zero, suc, ◌*◌, ◌≤◌, Bool, true, false, ◌||◌, if◌then◌else◌, nat_lt, ℤ, pos, negsuc, List, [], ◌∷◌, ◌++◌}
use Rattle.std.proofs.Common.{Option, Some, None, refl, arith}
use Rattle.std.specs.List.{flat_map, range_with_len}
use Rattle.serde_json.specs.Data.{Data, null, boolean, number, string, array, object, Items, no_items, item, Members, no_members, member, depth, items_depth, members_depth}
use Rattle.serde_json.specs.Find.{is_float, of_integer}
use Rattle.serde_json.specs.Written.{has_float, items_have_float, members_have_float}
use Rattle.serde_json.specs.View.{items_of}
use Rattle.latin_board.specs.Boards.{BoardValue}
use Rattle.latin_board.specs.Edges.{edge_xy}
use Rattle.towers_game.specs.Towers.{TowersValue, clue_of}
use Rattle.unequal_game.specs.Unequal.{UnequalValue, is_greater}
use Rattle.board_checks.specs.Errors.{ErrorsValue}
use Rattle.json_replies.specs.Boards.{listed_data, when}
use Rattle.json_replies.specs.ClueLists.{clue_data, clues_data, sign_data, later_sign, signs_at, signs_data}
use Rattle.json_replies.specs.ObjectLines.{IsShallow, AreShallow, MembersAreShallow}
use Rattle.json_replies.specs.Replies.{name_data}
use Rattle.json_replies.specs.Texts.{text_data, lines_of, lines_data, list_data}

-- where neither of two has a fraction, both together have none
no_float_or : (a b : Bool) → a ≡ false → b ≡ false → (a || b) ≡ false
no_float_or true b e h = e
no_float_or false b e h = h

-- data that are not too deep have no float and that depth at most, as the kit says it
mutual
  pub told_whole : (n : ℕ) (d : Data) → IsShallow n d → (has_float d ≡ false) × (depth d ≤ n)
  told_whole n null fit = (refl, omega arith)
  told_whole n (boolean b) fit = (refl, omega arith)
  told_whole n (number x) fit = (fit, omega arith)
  told_whole n (string s) fit = (refl, omega arith)
  told_whole zero (array ds) fit = absurd fit
  told_whole (suc n) (array ds) fit = let (whole, flat) = items_whole n ds fit in (whole, omega (arith, flat))
  told_whole zero (object ms) fit = absurd fit
  told_whole (suc n) (object ms) fit = let (whole, flat) = members_whole n ms fit in (whole, omega (arith, flat))

  items_whole : (n : ℕ) (ds : Items) → AreShallow n ds → (items_have_float ds ≡ false) × (items_depth ds ≤ n)
  items_whole n no_items fit = (refl, omega arith)
  items_whole n (item d ds) fit =
      let (whole, flat) = told_whole n d fit.0 in
      let (others, low) = items_whole n ds fit.1 in
      (no_float_or (has_float d) _ whole others, omega (arith, flat, low))

  members_whole : (n : ℕ) (ms : Members) → MembersAreShallow n ms
      → (members_have_float ms ≡ false) × (members_depth ms ≤ n)
  members_whole n no_members fit = (refl, omega arith)
  members_whole n (member k d ms) fit =
      let (whole, flat) = told_whole n d fit.0 in
      let (others, low) = members_whole n ms fit.1 in
      (no_float_or (has_float d) _ whole others, omega (arith, flat, low))

-- data that fit where so many levels are left fit where one level more is left
mutual
  pub deeper : (n : ℕ) (d : Data) → IsShallow n d → IsShallow (suc n) d
  deeper n null fit = fit
  deeper n (boolean b) fit = fit
  deeper n (number x) fit = fit
  deeper n (string s) fit = fit
  deeper zero (array ds) fit = absurd fit
  deeper (suc n) (array ds) fit = items_deeper n ds fit
  deeper zero (object ms) fit = absurd fit
  deeper (suc n) (object ms) fit = members_deeper n ms fit

  items_deeper : (n : ℕ) (ds : Items) → AreShallow n ds → AreShallow (suc n) ds
  items_deeper n no_items fit = fit
  items_deeper n (item d ds) fit = (deeper n d fit.0, items_deeper n ds fit.1)

  members_deeper : (n : ℕ) (ms : Members) → MembersAreShallow n ms → MembersAreShallow (suc n) ms
  members_deeper n no_members fit = fit
  members_deeper n (member k d ms) fit = (deeper n d fit.0, members_deeper n ms fit.1)

-- what holds of two values holds of the one that a test takes
pub either : {A : Type 0} (F : A → Type 0) (t : Bool) (x y : A) → F x → F y → F (if t then x else y)
either F true x y one other = one
either F false x y one other = other

-- ---- lists

-- a list of data that fit where n levels are left fits where one level more is left
pub list_fits : {A : Type 0} (n : ℕ) (f : A → Data) → ((a : A) → IsShallow n (f a)) → (xs : List A)
    → IsShallow (suc n) (list_data f xs)
list_fits n f each [] = tt
list_fits n f each (x ∷ xs) = (each x, list_fits n f each xs)

-- each of the data fits where so many levels are left
abbrev pub AllFit : ℕ → List Data → Type 0
AllFit n ds = AreShallow n (items_of ds)

-- if all data of two lists fit, those of both lists together do
pub all_append : (n : ℕ) (xs ys : List Data) → AllFit n xs → AllFit n ys → AllFit n (xs ++ ys)
all_append n [] ys fit more = more
all_append n (x ∷ xs) ys fit more = (fit.0, all_append n xs ys fit.1 more)

-- a list of the data of some numbers fits where one level more is left than for the data
pub listed_fits : (n : ℕ) (f : ℕ → List Data) → ((k : ℕ) → AllFit n (f k)) → (ks : List ℕ)
    → IsShallow (suc n) (listed_data f ks)
listed_fits n f each [] = tt
listed_fits n f each (k ∷ ks) = all_append n (f k) (flat_map f ks) (each k) (listed_fits n f each ks)

-- data that stand in a list only if a test is true fit where the data do
pub when_fits : (n : ℕ) (t : Bool) (d : Data) → IsShallow n d → AllFit n (when t d)
when_fits n t d fit = either (AllFit n) t (d ∷ []) [] (fit, tt) tt

-- the lines of a reply are texts
pub lines_fit : (n : ℕ) (reply : List ℕ) → IsShallow (suc n) (lines_data reply)
lines_fit n reply = list_fits n text_data (λ line. tt) (lines_of reply)

pub name_fits : (n : ℕ) (name : Option (List ℕ)) → IsShallow n (name_data name)
name_fits n None = tt
name_fits n (Some name) = tt

-- ---- clues and signs

pub none_fits : IsShallow 2 (array no_items)
none_fits = tt

-- an integer has no fraction
pub integer_whole : (z : ℤ) → is_float (of_integer z) ≡ false
integer_whole (pos n) = refl
integer_whole (negsuc n) = refl

clue_fits : (p : TowersValue) (b : BoardValue) (e : ErrorsValue) (place : ℕ) → IsShallow 1 (clue_data p b e place)
clue_fits p b e place =
    (refl, (tt, (tt, (integer_whole (edge_xy p.size place).0, (integer_whole (edge_xy p.size place).1, tt)))))

pub clues_fit : (p : TowersValue) (b : BoardValue) (e : ErrorsValue) → IsShallow 2 (clues_data p b e)
clues_fit p b e =
    listed_fits 1 (λ place. when (nat_lt 0 (clue_of p place)) (clue_data p b e place))
    (λ place. when_fits 1 (nat_lt 0 (clue_of p place)) (clue_data p b e place) (clue_fits p b e place))
    (range_with_len 0 (4 * p.size))

sign_at_fits : (v : UnequalValue) (error : Bool) (a b : ℕ) → AllFit 1 (later_sign v error a b)
sign_at_fits v error a b =
    either (AllFit 1) (nat_lt b (v.size * v.size)) _ []
    (either (AllFit 1) (is_greater v a b) (sign_data error a b ∷ []) _ ((tt, (refl, (refl, tt))), tt)
    (when_fits 1 (is_greater v b a) (sign_data error b a) (tt, (refl, (refl, tt))))) tt

pub signs_fit : (v : UnequalValue) (e : ErrorsValue) → IsShallow 2 (signs_data v e)
signs_fit v e =
    listed_fits 1 (signs_at v e) (λ cell. all_append 1 _ _ (sign_at_fits v _ cell _) (sign_at_fits v _ cell _))
    (range_with_len 0 (v.size * v.size))
