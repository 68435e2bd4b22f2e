-- The fields of `Candidates` agree as pairs go and come back.
use Rattle.std.proofs.lemmas.Bool.Decides.{nat_tests}
use Rattle.std.proofs.Common.{◌≡◌, ℕ, ◌*◌, ◌^◌, ◌<◌, ◌≤◌, eqb, leb, cond, Bool, true, false, not, ◌&&◌, ◌||◌, List, [], ◌++◌, length, replicate, refl, sym, ap, ◌∙◌, le-leb, arith}
use Rattle.std.proofs.lemmas.Bool.{false≢true, and_from, and_parts, cases_Bool, eq-eqb, or_left, or_right}
use Rattle.std.proofs.Math.Bool.{and-true, or-false}
use Rattle.std.proofs.lemmas.List.{get_or-replicate}
use Rattle.std.proofs.lemmas.List.Folds.{list_any-append}
use Rattle.std.proofs.lemmas.Nat.{mul-le}
use Rattle.latin_board.specs.declared.grid.TheConstants.{CELLS}
use Rattle.trail_solver.specs.declared.trail.TheConstants.{PAIRS}
use Rattle.number_sets.specs.Sets.{has_number, numbers_to}
use Rattle.number_sets.proofs.Members.{has_number-numbers_to}
use Rattle.trail_solver.specs.Pairs.{IsPair, AreApart, has_pair, pairs_of}
use Rattle.trail_solver.specs.Inner.Fields.{AgreesWithTrail, FlipsSet}
use Rattle.trail_solver.proofs.Trails.{same_pair, apart_append, apart_absent, length-le_from_apart}
use Rattle.trail_solver.proofs.SetPairs.{has_pair-pairs_of, apart_pairs}

-- a grid of the size has at most `CELLS` squares
pub squares_fit : (w : ℕ) → w ≤ 9 → w * w ≤ CELLS
squares_fit w high = mul-le w w 9 9 high high

-- a grid of the size has at most `PAIRS` pairs of a square and a value
pub pairs_fit : (w : ℕ) → w ≤ 9 → w * w * w ≤ PAIRS
pairs_fit w high = mul-le (w * w) w CELLS 9 (squares_fit w high) high

-- the sets of all values agree with the empty trail
pub agrees_at_start : (w : ℕ) → 3 ≤ w → w ≤ 9 → AgreesWithTrail w (replicate CELLS (numbers_to w)) []
agrees_at_start w low high = record {
  smallest = low;
  largest = high;
  places = refl;
  agree = λ cell value inside.
      let near : cell < CELLS = omega (arith, squares_fit w high) in
      ap (λ m. has_number m value) (get_or-replicate CELLS cell (numbers_to w) 0 near)
      ∙ has_number-numbers_to w value
      ∙ sym (and-true (leb 1 value && leb value w));
  in_range = λ cell value h. absurd (false≢true h);
  apart = tt;
}

-- ---- pairs go and come back

-- a list followed by a cell's pairs of a set has the pairs that it had, and these
has_pair-after : (ps : List (ℕ × ℕ)) (cell set c v : ℕ) → set < 2 ^ 16
    → has_pair (ps ++ pairs_of cell set) c v ≡ (has_pair ps c v || (eqb c cell && has_number set v))
has_pair-after ps cell set c v small =
    list_any-append (same_pair c v) ps (pairs_of cell set) ∙ ap (λ b. has_pair ps c v || b) (has_pair-pairs_of cell set c v small)

-- b, or its opposite where s is true
abbrev turned_where : Bool → Bool → Bool
turned_where s b = cond s (not b) b

-- to turn a test over twice changes nothing
turned_back : (s a b : Bool) → a ≡ turned_where s b → b ≡ turned_where s a
turned_back s a b is = grind (arith, nat_tests)

-- for a value of the size, to turn over whether it is left is to turn over whether its pair is gone
turned_value : (s r gone : Bool) → (s ≡ true → r ≡ true) → turned_where s (r && not gone) ≡ (r && not (turned_where s gone))
turned_value true r gone in_range = rw (in_range refl) refl
turned_value false r gone in_range = refl

-- a trail that gets a cell's pairs of a set, none of which it had, differs in these pairs alone
turned_by_set : (trail : List (ℕ × ℕ)) (cell set : ℕ) → set < 2 ^ 16 → ((v : ℕ) → has_number set v ≡ true → has_pair trail cell v ≡ false)
    → (c v : ℕ) → has_pair (trail ++ pairs_of cell set) c v ≡ turned_where (eqb c cell && has_number set v) (has_pair trail c v)
turned_by_set trail cell set small absent c v = grind (arith, nat_tests, has_pair-after, cases_Bool, or-false)

-- a list of the size's pairs, followed by a cell's pairs of a set that are of the size, has only such pairs
more_in_range : (w : ℕ) (trail : List (ℕ × ℕ)) (cell set : ℕ) → set < 2 ^ 16 → ((c v : ℕ) → has_pair trail c v ≡ true → IsPair w c v)
    → ((v : ℕ) → has_number set v ≡ true → IsPair w cell v) → (c v : ℕ) → has_pair (trail ++ pairs_of cell set) c v ≡ true → IsPair w c v
more_in_range w trail cell set small k each c v h = grind (arith, nat_tests, has_pair-after)

-- the new trail has pairs of the size, none twice, and differs from the old one in a cell's pairs of a set
record DiffersBySet (w : ℕ) (trail next : List (ℕ × ℕ)) (cell set : ℕ) : Type 0 where
  pub each : (v : ℕ) → has_number set v ≡ true → IsPair w cell v
  pub turned : (c v : ℕ) → has_pair next c v ≡ turned_where (eqb c cell && has_number set v) (has_pair trail c v)
  pub in_range : (c v : ℕ) → has_pair next c v ≡ true → IsPair w c v
  pub apart : AreApart next

-- if trail and sets both change in the cell's values of a set alone, they agree as before
agrees_turned : (w : ℕ) (old new : List ℕ) (trail next : List (ℕ × ℕ)) (cell set : ℕ) → AgreesWithTrail w old trail
    → FlipsSet old new cell set → DiffersBySet w trail next cell set → AgreesWithTrail w new next
agrees_turned w old new trail next cell set k f d = record {
  smallest = k.smallest;
  largest = k.largest;
  places = f.places ∙ k.places;
  agree = λ c v inside.
      let s : Bool = eqb c cell && has_number set v in
      let r : Bool = leb 1 v && leb v w in
      let in_range : s ≡ true → r ≡ true = λ same.
      let p = d.each v (and_parts (eqb c cell) (has_number set v) same).1 in
      and_from (leb 1 v) (leb v w) (le-leb 1 v p.low) (le-leb v w p.high) in
      f.values c v
      ∙ ap (turned_where s) (k.agree c v inside)
      ∙ turned_value s r (has_pair trail c v) in_range
      ∙ ap (λ gone. r && not gone) (sym (d.turned c v));
  in_range = d.in_range;
  apart = d.apart;
}

-- candidates of a cell go: their pairs join the trail, the cell's set loses them, and both agree
pub agrees_struck : (w : ℕ) (old new : List ℕ) (trail : List (ℕ × ℕ)) (cell set : ℕ) → AgreesWithTrail w old trail → set < 2 ^ 16
    → ((v : ℕ) → has_number set v ≡ true → IsPair w cell v) → ((v : ℕ) → has_number set v ≡ true → has_pair trail cell v ≡ false)
    → FlipsSet old new cell set → AgreesWithTrail w new (trail ++ pairs_of cell set)
agrees_struck w old new trail cell set k small each absent f =
    grind (arith, nat_tests, agrees_turned, turned_by_set, more_in_range, apart_pairs)

-- the last pairs of a trail are pairs of the size
pub last_are_pairs : (w : ℕ) (sets : List ℕ) (trail : List (ℕ × ℕ)) (cell set : ℕ) → set < 2 ^ 16
    → AgreesWithTrail w sets (trail ++ pairs_of cell set) → (v : ℕ) → has_number set v ≡ true → IsPair w cell v
last_are_pairs w sets trail cell set small k v has =
    let s : Bool = eqb cell cell && has_number set v in
    k.in_range cell v (has_pair-after trail cell set cell v small ∙ or_right (has_pair trail cell v) s (and_from (eqb cell cell) (has_number set v) (eq-eqb cell cell refl) has))

-- the last pairs come back: they leave the trail, the cell's set has them again, and both agree
pub agrees_returned : (w : ℕ) (old new : List ℕ) (trail : List (ℕ × ℕ)) (cell set : ℕ) → set < 2 ^ 16
    → AgreesWithTrail w old (trail ++ pairs_of cell set) → FlipsSet old new cell set → AgreesWithTrail w new trail
agrees_returned w old new trail cell set small k f =
    let absent : (v : ℕ) → has_number set v ≡ true → has_pair trail cell v ≡ false = λ v has.
    apart_absent trail (pairs_of cell set) k.apart cell v
    (has_pair-pairs_of cell set cell v small ∙ and_from (eqb cell cell) (has_number set v) (eq-eqb cell cell refl) has) in
    agrees_turned w old new (trail ++ pairs_of cell set) trail cell set k f (record {
      each = last_are_pairs w old trail cell set small k;
      turned = λ c v. turned_back (eqb c cell && has_number set v) _ (has_pair trail c v) (turned_by_set trail cell set small absent c v);
      in_range = λ c v h. k.in_range c v (has_pair-after trail cell set c v small ∙ or_left (has_pair trail c v) (eqb c cell && has_number set v) h);
      apart = apart_append trail (pairs_of cell set) k.apart;
    })

-- a trail has no more pairs than there are of the size
pub trail_fits : (w : ℕ) (sets : List ℕ) (trail : List (ℕ × ℕ)) → AgreesWithTrail w sets trail → length trail ≤ w * w * w
trail_fits w sets trail k = length-le_from_apart w trail k.in_range k.apart
