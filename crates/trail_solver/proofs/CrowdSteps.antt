-- The pairs that crowds rule out, and how narrowings by them follow one another.
use Rattle.std.proofs.lemmas.Bool.Decides.{nat_tests}
use Rattle.std.proofs.Common.{◌≡◌, ℕ, ◌<◌, ◌≤◌, Bool, true, false, List, slice_index, subst, arith, count_ones}
use Rattle.latin_board.specs.Squares.{GridValue}
use Rattle.number_sets.specs.Sets.{has_number}
use Rattle.trail_solver.specs.Candidates.{CandidatesValue, IsEarlier, IsWithin, may_be}
use Rattle.trail_solver.specs.Inner.Pairings.{Covers, IsCrowd, IsLatinWithin, IsPairing, LacksRights, NarrowsLatin, OthersLack, pair_cell, pair_value}
use Rattle.trail_solver.specs.declared.pairing.Pairing.{Pairing}
use Rattle.trail_solver.proofs.Earlier.{earlier_refl, earlier_trans, was_left}
use Rattle.trail_solver.proofs.OneKept.{Removes, removed_earlier}
use Rattle.trail_solver.proofs.SearchSteps.{within_removed}
use Rattle.trail_solver.proofs.PairedSquares.{IsMatched, matched, pair_is_one}
use Rattle.trail_solver.proofs.Pigeonholes.{Injects, pigeonhole, none_else}

-- ---- crowds

-- a Latin square within the candidates gives each left of a crowd a right of its own among the crowd's rights
crowd_injects : (c : CandidatesValue) (pairing : Pairing) (crowd rights : ℕ) (g : GridValue) (f : ℕ → ℕ) → c.size ≤ 9 → IsPairing c.size pairing
    → IsCrowd c pairing crowd rights → IsLatinWithin c g → IsMatched c.size g pairing f → Injects crowd rights f
crowd_injects c pairing crowd rights g f small is crowded s m = record {
  small = λ i has. omega (arith, crowded.lefts i has);
  lands = λ i has.
      let low = crowded.lefts i has in
      let pair = pair_is_one c.size pairing i (f i) is low (m.below i low) in
      let P : ℕ → Type 0 = λ v. may_be c (pair_cell c.size pairing i (f i)) v ≡ true in
      crowded.all i (f i) has (m.below i low) (subst P (m.here i low) (s.within.each (pair_cell c.size pairing i (f i)) pair.inside));
  apart = λ i j first second e. m.apart i j (crowded.lefts i first) (crowded.lefts j second) e;
}

-- a crowd with fewer rights than lefts: no Latin square is within the candidates
pub none_crowded : (c : CandidatesValue) (pairing : Pairing) (crowd rights : ℕ) → c.size ≤ 9 → IsPairing c.size pairing
    → IsCrowd c pairing crowd rights → count_ones rights < count_ones crowd → (g : GridValue) → IsLatinWithin c g → ⊥
none_crowded c pairing crowd rights small is crowded few g s =
    let m = matched g c.size s.same_size s.is_grid s.latin pairing is in
    omega (arith, pigeonhole crowd rights m.0 (crowd_injects c pairing crowd rights g m.0 small is crowded s m.1))

-- a crowd with just as many rights as lefts: none of these rights is left for the other lefts
pub others_lack : (c : CandidatesValue) (pairing : Pairing) (crowd rights : ℕ) → c.size ≤ 9 → IsPairing c.size pairing
    → IsCrowd c pairing crowd rights → count_ones rights ≡ count_ones crowd → OthersLack c pairing crowd rights
others_lack c pairing crowd rights small is crowded same = record {
  each = λ g s left low outside. record {
    each = λ right inside has at.
        let m = matched g c.size s.same_size s.is_grid s.latin pairing is in
        let P : ℕ → Type 0 = λ r. has_number rights r ≡ true in
        none_else crowd left rights m.0 (crowd_injects c pairing crowd rights g m.0 small is crowded s m.1) same (omega arith) outside
        (λ i has e. m.1.apart i left (crowded.lefts i has) low e)
        (subst P (m.1.only left right low inside at) has);
  };
}

-- lefts are a crowd with all rights that are in the sides of these lefts
pub crowd_counted : (c : CandidatesValue) (pairing : Pairing) (sides : List ℕ) (crowd rights : ℕ) → Covers c pairing sides
    → ((left : ℕ) → has_number crowd left ≡ true → left < c.size)
    → ((left right : ℕ) → left < c.size → has_number crowd left ≡ true → has_number (slice_index sides left) right ≡ true
    → has_number rights right ≡ true)
    → IsCrowd c pairing crowd rights
crowd_counted c pairing sides crowd rights covers lefts all = grind (arith, nat_tests)

-- ---- narrowings, one after another

-- a Latin square within the candidates is within those that a narrowing leaves
latin_earlier : (a b : CandidatesValue) (g : GridValue) → NarrowsLatin a b true → IsLatinWithin a g → IsLatinWithin b g
latin_earlier a b g n s = grind (arith, nat_tests)

pub narrows_nothing : (c : CandidatesValue) → NarrowsLatin c c true
narrows_nothing c = record { less = earlier_refl c; keeps = λ g s. s.within; refutes = tt }

pub narrows_none : (c : CandidatesValue) → ((g : GridValue) → IsLatinWithin c g → ⊥) → NarrowsLatin c c false
narrows_none c none = record { less = earlier_refl c; keeps = λ g s. s.within; refutes = none }

-- two steps that narrow for Latin squares, one after the other
pub narrows_then : (a b c : CandidatesValue) (result : Bool) → NarrowsLatin a b true → NarrowsLatin b c result → NarrowsLatin a c result
narrows_then a b c result n m = grind (arith, nat_tests, earlier_trans, latin_earlier)

-- sides that cover candidates cover later ones, too
pub covers_later : (a b : CandidatesValue) (pairing : Pairing) (sides : List ℕ) → IsEarlier a b → Covers a pairing sides → Covers b pairing sides
covers_later a b pairing sides less covers = grind (arith, nat_tests, was_left)

-- ---- rights taken from a left

-- rights went from a left: a grid within the candidates that lacks them there is still within
pub record StrikesRights (old new : CandidatesValue) (pairing : Pairing) (left rights : ℕ) : Type 0 where
  pub less : IsEarlier old new
  pub keeps : (g : GridValue) → IsWithin old g → LacksRights old.size pairing left rights g → IsWithin new g

pub strikes_nothing : (c : CandidatesValue) (pairing : Pairing) (left rights : ℕ) → StrikesRights c c pairing left rights
strikes_nothing c pairing left rights = record { less = earlier_refl c; keeps = λ g w _. w }

-- one pair more of a crowd's rights is struck
pub strikes_more : (old now new : CandidatesValue) (pairing : Pairing) (left rights right cell value : ℕ) → StrikesRights old now pairing left rights
    → right < old.size → has_number rights right ≡ true → cell ≡ pair_cell old.size pairing left right → value ≡ pair_value pairing right
    → Removes now new cell value → StrikesRights old new pairing left rights
strikes_more old now new pairing left rights right cell value h inside has cell_is value_is r =
    grind (arith, nat_tests, earlier_trans, removed_earlier, within_removed)

-- to strike rights of a crowd from a left outside it loses no Latin square within the candidates
pub narrows_struck : (old now new : CandidatesValue) (pairing : Pairing) (left crowd rights struck : ℕ) → OthersLack old pairing crowd rights
    → NarrowsLatin old now true → left < old.size → has_number crowd left ≡ false
    → ((n : ℕ) → has_number struck n ≡ true → has_number rights n ≡ true)
    → IsEarlier now new → ((g : GridValue) → IsWithin now g → LacksRights now.size pairing left struck g → IsWithin new g)
    → NarrowsLatin old new true
narrows_struck old now new pairing left crowd rights struck others n low outside part less keeps =
    grind (arith, nat_tests, earlier_trans)
