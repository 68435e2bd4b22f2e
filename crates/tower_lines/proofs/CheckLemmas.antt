-- A test of whether a list is a start of a line, value by value.
use Rattle.std.proofs.Common.{◌≡◌, ℕ, ◌+◌, ◌<◌, true, false, eqb, List, [], ◌∷◌, ◌++◌, length, get_or, take, drop, sym, ap, ◌∙◌, arith, add-one, bit_or}
use Rattle.std.proofs.lemmas.Bool.{both_ways}
use Rattle.std.proofs.lemmas.Bool.Decides.{nat_tests}
use Rattle.std.proofs.lemmas.List.{take_more, take-append-drop, length-take-le}
use Rattle.std.proofs.Math.Seq.{drop-cons}
use Rattle.number_sets.specs.Sets.{has_number}
use Rattle.number_sets.proofs.Members.{has_number-none, has_number-or}
use Rattle.tower_lines.specs.LineFillings.{IsStart}
use Rattle.tower_lines.specs.Inner.LineMasks.{is_in, can_be}
use Rattle.tower_lines.proofs.MaskLemmas.{is_in-push}
use Rattle.tower_lines.proofs.StartLemmas.{IsNextValue, start_next, start_more}

-- the values of `line` are a start, and `used` is the set of them
pub record IsUsedStart (sets line : List ℕ) (used : ℕ) : Type 0 where
  pub start : IsStart sets line
  pub values : (v : ℕ) → has_number used v ≡ is_in v line

-- the empty list is a start, and uses no value
pub used_start_none : (sets : List ℕ) → IsUsedStart sets [] 0
used_start_none sets = grind (arith, nat_tests, has_number-none)

-- `can_be` is true of exactly the values that a start can have next
next_told : {sets : List ℕ} {used : ℕ} (p : List ℕ) (v : ℕ) → IsUsedStart sets p used → length p < length sets
    → can_be sets (length p) used v ≡ true → IsNextValue sets p v
next_told {sets} {used} p v h room told = grind (arith, nat_tests)

next_tells : {sets : List ℕ} {used : ℕ} (p : List ℕ) (v : ℕ) → IsUsedStart sets p used → IsNextValue sets p v
    → can_be sets (length p) used v ≡ true
next_tells {sets} {used} p v h next = grind (arith, nat_tests)

eqb_turned : (a b : ℕ) → eqb a b ≡ eqb b a
eqb_turned a b = grind (arith, nat_tests)

-- if the next value of a list can be there, the first values with it are a start, and it is used, too
pub used_start_more : {sets : List ℕ} {used place : ℕ} (line : List ℕ) (one : ℕ) → place < length line → length line ≡ length sets
    → IsUsedStart sets (take place line) used → can_be sets place used (get_or line place 0) ≡ true
    → ((v : ℕ) → has_number one v ≡ eqb v (get_or line place 0))
    → IsUsedStart sets (take (place + 1) line) (bit_or used one)
used_start_more {sets} {used} {place} line one inside long h told alone =
    grind (arith, nat_tests, length-take-le, next_told, take_more, start_more, has_number-or, eqb_turned, is_in-push)

-- a list with a value that can't come next is no start
pub no_start : {sets line : List ℕ} {used place : ℕ} → place < length line
    → IsUsedStart sets (take place line) used → can_be sets place used (get_or line place 0) ≡ false → IsStart sets line → ⊥
no_start {sets} {line} {used} {place} inside h told start =
    let p = take place line in
    let v = get_or line place 0 in
    let n : length p ≡ place = length-take-le place line (omega arith) in
    let whole : p ++ v ∷ drop (place + 1) line ≡ line =
    ap (λ s. p ++ s) (sym (rw add-one (drop-cons line place 0 inside))) ∙ take-append-drop place line in
    let next = start_next p v (drop (place + 1) line) (rw whole start) in
    both_ways _ told (rw n at (next_tells p v h next))
