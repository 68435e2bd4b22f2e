-- The removals of candidates, and the trail that they are together.
use Rattle.std.proofs.lemmas.Bool.Decides.{nat_tests}
use Rattle.std.proofs.Common.{◌≡◌, ◌≢◌, ℕ, suc, ◌+◌, ◌-◌, ◌*◌, ◌^◌, ◌<◌, ◌≤◌, eqb, true, false, List, [], ◌∷◌, ◌++◌, length, get_or, take, drop, slice_get, Some, count_ones, refl, sym, ap, ◌∙◌, subst, inl, inr, arith, append_assoc, append-nil, length-append, take_at, take-append-drop, drop-cons}
use Rattle.std.specs.Prelude.{All}
use Rattle.std.proofs.lemmas.Bool.{and_from, both_ways, cases_Bool, eq-eqb, false_from_ne_true, or_left, or_right}
use Rattle.std.proofs.lemmas.List.Elements.{All-cons, All-head, All-tail, All-push, All-nil}
use Rattle.std.proofs.lemmas.List.Folds.{list_any-append}
use Rattle.std.proofs.lemmas.Option.{get_or_from_slice_get, slice_get_within}
use Rattle.std.proofs.lemmas.Grind.{flat_map-append}
use Rattle.std.proofs.lemmas.Nat.{zero_from_ones}
use Rattle.number_sets.specs.Sets.{has_number, IsEmpty}
use Rattle.number_sets.proofs.Members.{has_number-none, has_number-above, below_from_numbers, below_from_number}
use Rattle.trail_solver.specs.declared.trail.Removal.{Removal}
use Rattle.trail_solver.specs.declared.trail.TheConstants.{PAIRS}
use Rattle.trail_solver.specs.Pairs.{IsPair, has_pair, pairs_of}
use Rattle.trail_solver.specs.Candidates.{CandidatesValue, AreCandidates}
use Rattle.trail_solver.specs.Inner.Fields.{AgreesWithTrail, AreFields, FlipsSet, GivesBack, IsRemoval, IsUpperPart, trail_of}
use Rattle.trail_solver.proofs.Trails.{same_pair}
use Rattle.trail_solver.proofs.SetPairs.{IsRest, has_pair-pairs_of, length-pairs_of, pairs_of_none, pairs_parted}
use Rattle.trail_solver.proofs.AgreeingSets.{agrees_struck, agrees_returned, last_are_pairs, pairs_fit, trail_fits}

-- what is so of each is so of the last, and of those before it
All-last : {X : Type 0} (P : X → Type 0) → (xs : List X) (x : X) → All P (xs ++ x ∷ []) → P x
All-last P [] x each = All-head P x [] each
All-last P (y ∷ xs) x each = All-last P xs x (All-tail P y (xs ++ x ∷ []) each)

All-front : {X : Type 0} (P : X → Type 0) → (xs : List X) (x : X) → All P (xs ++ x ∷ []) → All P xs
All-front P [] x each = All-nil P
All-front P (y ∷ xs) x each = All-cons P y xs (All-head P y (xs ++ x ∷ []) each) (All-front P xs x (All-tail P y (xs ++ x ∷ []) each))

-- the trail with one removal more is the trail before, and then the pairs of this removal
pub trail_of_push : (rs : List Removal) (cell set : ℕ)
    → trail_of (rs ++ (record { cell = cell; values = set }) ∷ []) ≡ trail_of rs ++ pairs_of cell set
trail_of_push rs cell set = grind (arith, nat_tests, flat_map-append, append-nil)

-- a set with some number has one or more
some_ones : (set v : ℕ) → has_number set v ≡ true → 0 < count_ones set
some_ones set v has = grind (arith, nat_tests, has_number-none, zero_from_ones)

-- there are no more removals than pairs in their trail, since each is of one or more
removals_fit : (rs : List Removal) → All IsRemoval rs → length rs ≤ length (trail_of rs)
removals_fit [] each = omega arith
removals_fit (r ∷ rs) each =
    let here = All-head IsRemoval r rs each in
    let some = some_ones r.values here.some.0 here.some.1 in
    let count = length-pairs_of r.cell r.values here.small in
    let rest = removals_fit rs (All-tail IsRemoval r rs each) in
    omega (arith, some, count, rest, length-append (pairs_of r.cell r.values) (trail_of rs))

-- a set of numbers of the size is below 2 ^ 16
pub set_below : (w cell set : ℕ) → w ≤ 9 → ((v : ℕ) → has_number set v ≡ true → IsPair w cell v) → set < 2 ^ 16
set_below w cell set high each = below_from_numbers set 16 (λ v above.
    elim (cases_Bool (has_number set v)) [
      | inl has ↦ absurd (let p = each v has in omega (arith, p.high, above))
      | inr lacks ↦ lacks
    ])

-- ---- candidates go

-- the set has a number, and each of its numbers is a value of the size whose pair isn't in the trail
pub record AreLeft (w : ℕ) (trail : List (ℕ × ℕ)) (cell set : ℕ) : Type 0 where
  pub some : (v : ℕ) × (has_number set v ≡ true)
  pub pairs : (v : ℕ) → has_number set v ≡ true → IsPair w cell v
  pub absent : (v : ℕ) → has_number set v ≡ true → has_pair trail cell v ≡ false

pub are_left : (c : CandidatesValue) (cell set v : ℕ) → AreCandidates c cell set → has_number set v ≡ true → AreLeft c.size c.trail cell set
are_left c cell set v there has = grind (arith, nat_tests)

-- candidates of a cell go: the fields hold with one removal more
pub fields_struck : (w : ℕ) (old new : List ℕ) (rs : List Removal) (pairs cell set : ℕ) → AreFields w old rs pairs
    → AreLeft w (trail_of rs) cell set → FlipsSet old new cell set
    → AreFields w new (rs ++ (record { cell = cell; values = set }) ∷ []) (pairs + count_ones set)
fields_struck w old new rs pairs cell set k left f =
    let small = set_below w cell set k.agrees.largest left.pairs in
    let r : Removal = record { cell = cell; values = set } in
    let whole = trail_of_push rs cell set in
    record {
      agrees = subst (λ (ps : List (ℕ × ℕ)). AgreesWithTrail w new ps) (sym whole) (agrees_struck w old new (trail_of rs) cell set k.agrees small left.pairs left.absent f);
      each = All-push IsRemoval rs r k.each (record { small = small; some = left.some });
      count = omega (arith, k.count, ap length whole, length-append (trail_of rs) (pairs_of cell set), length-pairs_of cell set small);
    }

-- there is room for the last removal
pub room_for_last : (w : ℕ) (sets : List ℕ) (rs : List Removal) (r : Removal) (pairs : ℕ) → AreFields w sets (rs ++ r ∷ []) pairs → length rs < PAIRS
room_for_last w sets rs r pairs k =
    omega (arith, removals_fit (rs ++ r ∷ []) k.each, length-append rs (r ∷ []), trail_fits w sets (trail_of (rs ++ r ∷ [])) k.agrees, pairs_fit w k.agrees.largest)

-- no more pairs are removed than the size has
pub fields_bound : (w : ℕ) (sets : List ℕ) (rs : List Removal) (pairs : ℕ) → AreFields w sets rs pairs → pairs ≤ w * w * w
fields_bound w sets rs pairs k = omega (arith, k.count, trail_fits w sets (trail_of rs) k.agrees)

-- there is room in the trail for all pairs that were removed
pub fields_fit : (w : ℕ) (sets : List ℕ) (rs : List Removal) (pairs : ℕ) → AreFields w sets rs pairs → pairs ≤ PAIRS
fields_fit w sets rs pairs k = omega (arith, fields_bound w sets rs pairs k, pairs_fit w k.agrees.largest)

-- each removal is in a square of the size
pub removal_inside : (w : ℕ) (sets : List ℕ) (rs : List Removal) (pairs k : ℕ) (r : Removal) → AreFields w sets rs pairs
    → slice_get rs k ≡ Some r → r.cell < w * w
removal_inside w sets rs pairs k r h e =
    let within : k < length rs = slice_get_within rs k r e in
    let at : get_or rs k r ≡ r = get_or_from_slice_get rs k r r e in
    let here : IsRemoval r = subst IsRemoval at (h.each k r within) in
    let v = here.some.0 in
    let first : has_pair (pairs_of r.cell r.values) r.cell v ≡ true =
    has_pair-pairs_of r.cell r.values r.cell v here.small ∙ and_from (eqb r.cell r.cell) (has_number r.values v) (eq-eqb r.cell r.cell refl) here.some.1 in
    let rest : List Removal = drop (suc k) rs in
    let parted : trail_of rs ≡ trail_of (take k rs) ++ (pairs_of r.cell r.values ++ trail_of rest) =
    ap (λ (qs : List Removal). trail_of qs) (sym (take-append-drop k rs) ∙ ap (λ (qs : List Removal). take k rs ++ qs) (drop-cons rs k r within ∙ ap (λ (q : Removal). q ∷ rest) at))
    ∙ flat_map-append (λ (q : Removal). pairs_of q.cell q.values) (take k rs) (r ∷ rest) in
    let there : has_pair (pairs_of r.cell r.values ++ trail_of rest) r.cell v ≡ true =
    list_any-append (same_pair r.cell v) (pairs_of r.cell r.values) (trail_of rest) ∙ or_left (has_pair (pairs_of r.cell r.values) r.cell v) (has_pair (trail_of rest) r.cell v) first in
    let whole : has_pair (trail_of rs) r.cell v ≡ true =
    ap (λ (ps : List (ℕ × ℕ)). has_pair ps r.cell v) parted
    ∙ list_any-append (same_pair r.cell v) (trail_of (take k rs)) (pairs_of r.cell r.values ++ trail_of rest)
    ∙ or_right (has_pair (trail_of (take k rs)) r.cell v) (has_pair (pairs_of r.cell r.values ++ trail_of rest) r.cell v) there in
    (h.agrees.in_range r.cell v whole).inside

-- the last removal is in a square of the size
pub last_inside : (w : ℕ) (sets : List ℕ) (rs : List Removal) (r : Removal) (pairs : ℕ) → AreFields w sets (rs ++ r ∷ []) pairs
    → r.cell < w * w
last_inside w sets rs r pairs k = grind (arith, nat_tests, All-last, trail_of_push, last_are_pairs)

-- ---- the last ones come back

-- the last removal is parted: its upper part comes back, and the rest stays
pub record IsParted (set part rest : ℕ) : Type 0 where
  pub upper : IsUpperPart set part
  pub left : IsRest set part rest

part_small : (set part : ℕ) → set < 2 ^ 16 → IsUpperPart set part → part < 2 ^ 16
part_small set part small upper = below_from_numbers part 16 (λ v above.
    false_from_ne_true (has_number part v) (λ has. absurd (let low = below_from_number set 16 v small (upper.within v has) in omega arith)))

parted_trail : (rs : List Removal) (cell set part rest : ℕ) → IsParted set part rest
    → trail_of (rs ++ (record { cell = cell; values = set }) ∷ []) ≡ (trail_of rs ++ pairs_of cell rest) ++ pairs_of cell part
parted_trail rs cell set part rest p =
    trail_of_push rs cell set
    ∙ ap (λ (ps : List (ℕ × ℕ)). trail_of rs ++ ps) (pairs_parted cell set part rest p.upper p.left)
    ∙ sym (append_assoc (trail_of rs) (pairs_of cell rest) (pairs_of cell part))

-- the trail that stays is a front of the whole one, shorter by the part's numbers, and agrees with the sets
record Stays (w : ℕ) (sets : List ℕ) (whole now : List (ℕ × ℕ)) (part : ℕ) : Type 0 where
  pub agrees : AgreesWithTrail w sets now
  pub count : length whole ≡ length now + count_ones part
  pub some : 0 < count_ones part
  pub front : now ≡ take (length now) whole

-- when the upper part of the last removal comes back, the trail that stays agrees with the sets
stays : (w : ℕ) (old new : List ℕ) (rs : List Removal) (pairs cell set part rest : ℕ)
    → AreFields w old (rs ++ (record { cell = cell; values = set }) ∷ []) pairs → IsParted set part rest → FlipsSet old new cell part
    → Stays w new (trail_of (rs ++ (record { cell = cell; values = set }) ∷ [])) (trail_of rs ++ pairs_of cell rest) part
stays w old new rs pairs cell set part rest k p f =
    let r : Removal = record { cell = cell; values = set } in
    let here = All-last IsRemoval rs r k.each in
    let now : List (ℕ × ℕ) = trail_of rs ++ pairs_of cell rest in
    let small = part_small set part here.small p.upper in
    let whole : trail_of (rs ++ r ∷ []) ≡ now ++ pairs_of cell part = parted_trail rs cell set part rest p in
    let some : count_ones part ≢ 0 = λ none.
    let empty : part ≡ 0 = zero_from_ones part none in
    let lacks : IsEmpty part = λ v. subst (λ (m : ℕ). has_number m v ≡ false) (sym empty) (has_number-none v) in
    both_ways (has_number set here.some.0) (p.upper.some lacks here.some.0) here.some.1 in
    record {
      agrees = agrees_returned w old new now cell part small (subst (λ (ps : List (ℕ × ℕ)). AgreesWithTrail w old ps) whole k.agrees) f;
      count = ap length whole ∙ length-append now (pairs_of cell part) ∙ ap (λ n. length now + n) (length-pairs_of cell part small);
      some = omega (arith, some);
      front = sym (ap (λ (ps : List (ℕ × ℕ)). take (length now) ps) whole ∙ take_at now (pairs_of cell part) (length now) refl);
    }

gives_back : (w : ℕ) (sets : List ℕ) (whole now : List (ℕ × ℕ)) (part pairs kept : ℕ) → Stays w sets whole now part → pairs ≡ length whole
    → count_ones part ≤ pairs - kept → kept < pairs → GivesBack kept whole now
gives_back w sets whole now part pairs kept s count few more = grind (arith, nat_tests, stays)

-- the fields hold without the part's pairs, and the trail gave these back
pub record ComesBack (w : ℕ) (sets : List ℕ) (rs next : List Removal) (pairs cell set part kept : ℕ) : Type 0 where
  pub fields : AreFields w sets next (pairs - count_ones part)
  pub back : GivesBack kept (trail_of (rs ++ (record { cell = cell; values = set }) ∷ [])) (trail_of next)

-- if some of the last removal is to stay, its upper part comes back
pub some_stay : (w : ℕ) (old new : List ℕ) (rs : List Removal) (pairs cell set part rest kept v : ℕ)
    → AreFields w old (rs ++ (record { cell = cell; values = set }) ∷ []) pairs → IsParted set part rest → FlipsSet old new cell part
    → count_ones part ≤ pairs - kept → kept < pairs → has_number rest v ≡ true
    → ComesBack w new rs (rs ++ (record { cell = cell; values = rest }) ∷ []) pairs cell set part kept
some_stay w old new rs pairs cell set part rest kept v k p f few more has =
    let r : Removal = record { cell = cell; values = set } in
    let here = All-last IsRemoval rs r k.each in
    let s = stays w old new rs pairs cell set part rest k p f in
    let now : trail_of (rs ++ (record { cell = cell; values = rest }) ∷ []) ≡ trail_of rs ++ pairs_of cell rest = trail_of_push rs cell rest in
    let left : IsRemoval (record { cell = cell; values = rest }) = record {
      small = below_from_numbers rest 16 (λ u above. p.left.is u ∙ rw (has_number-above set 16 u here.small above) refl);
      some = (v, has);
    } in
    record {
      fields = record {
        agrees = subst (λ (ps : List (ℕ × ℕ)). AgreesWithTrail w new ps) (sym now) s.agrees;
        each = All-push IsRemoval rs (record { cell = cell; values = rest }) (All-front IsRemoval rs r k.each) left;
        count = omega (arith, k.count, s.count, ap length now);
      };
      back = subst (λ (ps : List (ℕ × ℕ)). GivesBack kept (trail_of (rs ++ r ∷ [])) ps) (sym now) (gives_back w new (trail_of (rs ++ r ∷ [])) (trail_of rs ++ pairs_of cell rest) part pairs kept s k.count few more);
    }

-- if nothing of the last removal is to stay, all of it comes back
pub none_stay : (w : ℕ) (old new : List ℕ) (rs : List Removal) (pairs cell set part rest kept : ℕ)
    → AreFields w old (rs ++ (record { cell = cell; values = set }) ∷ []) pairs → IsParted set part rest → FlipsSet old new cell part
    → count_ones part ≤ pairs - kept → kept < pairs → IsEmpty rest → ComesBack w new rs rs pairs cell set part kept
none_stay w old new rs pairs cell set part rest kept k p f few more none =
    let r : Removal = record { cell = cell; values = set } in
    let s = stays w old new rs pairs cell set part rest k p f in
    let now : trail_of rs ++ pairs_of cell rest ≡ trail_of rs = ap (λ (ps : List (ℕ × ℕ)). trail_of rs ++ ps) (pairs_of_none cell rest none) ∙ append-nil (trail_of rs) in
    record {
      fields = record {
        agrees = subst (λ (ps : List (ℕ × ℕ)). AgreesWithTrail w new ps) now s.agrees;
        each = All-front IsRemoval rs r k.each;
        count = omega (arith, k.count, s.count, ap length now);
      };
      back = subst (λ (ps : List (ℕ × ℕ)). GivesBack kept (trail_of (rs ++ r ∷ [])) ps) now (gives_back w new (trail_of (rs ++ r ∷ [])) (trail_of rs ++ pairs_of cell rest) part pairs kept s k.count few more);
    }
