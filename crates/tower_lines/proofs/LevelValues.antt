-- One value of a set after another, and what they add to the levels.
use Rattle.std.proofs.lemmas.Bool.Decides.{nat_tests}
use Rattle.std.proofs.Common.{◌≡◌, ◌≢◌, ℕ, ◌+◌, ◌-◌, ◌^◌, ◌<◌, ◌≤◌, ◌⊎◌, ◌↔◌, inl, inr, true, false, not, ◌&&◌, ◌||◌, eqb, leb, List, sym, ap, ◌∙◌, arith}
use Rattle.std.proofs.lemmas.Bool.{cases_eq, and_parts, eqb-true, false_from_ne_true}
use Rattle.std.proofs.Math.Bool.{and-true}
use Rattle.std.proofs.lemmas.Nat.{pow_pos}
use Rattle.number_sets.specs.Sets.{has_number}
use Rattle.number_sets.proofs.Members.{power_most, same_set, has_number-none}
use Rattle.number_sets.proofs.OneMore.{IsAdded, added_without, added_lacks, added_other}
use Rattle.tower_lines.specs.Inner.Levels.{AreAdded}
use Rattle.tower_lines.proofs.LevelAdditions.{added_both, added_none}

-- ---- a set without one of its numbers

-- the others are what is left without one value
abbrev pub AreOthers : ℕ → ℕ → ℕ → Type 0
AreOthers left value others = (n : ℕ) → has_number others n ≡ (has_number left n && not (eqb n value))

others_lack : (left value others : ℕ) → AreOthers left value others → has_number others value ≡ false
others_lack left value others are = grind (arith, nat_tests)

others_have : (left value others n : ℕ) → AreOthers left value others → n ≢ value → has_number left n ≡ true → has_number others n ≡ true
others_have left value others n are other e = grind (arith, nat_tests)

others_inside : (left value others n : ℕ) → AreOthers left value others → has_number others n ≡ true → has_number left n ≡ true
others_inside left value others n are e = (and_parts _ _ (sym (are n) ∙ e)).0

-- a set without one of its numbers is a smaller number, which is the measure of the loops
pub others_less : (left value others : ℕ) → has_number left value ≡ true → AreOthers left value others → others < left
others_less left value others here are =
    let most = power_most left value here in
    let some = pow_pos value in
    let rest : left - 2 ^ value + 2 ^ value ≡ left = omega arith in
    let added : IsAdded (left - 2 ^ value) value left = added_without (left - 2 ^ value) value left here rest in
    let same : others ≡ left - 2 ^ value = same_set others (left - 2 ^ value) (λ n. elim (cases_eq n value) [
      | inl is ↦ rw is (others_lack left value others are ∙ sym (added_lacks added))
      | inr other ↦
          let lacks : eqb n value ≡ false = false_from_ne_true (eqb n value) (λ s. other (eqb-true n value s)) in
          are n ∙ ap (λ b. has_number left n && not b) lacks ∙ and-true (has_number left n) ∙ added_other added n other
    ]) in
    omega arith

-- ---- the values of a set that are done

-- the value k + 1 is one of the set, up to the width, and no longer left to be done
pub record IsDone (width values left k : ℕ) : Type 0 where
  pub inside : k < width
  pub candidate : has_number values (k + 1) ≡ true
  pub done : has_number left (k + 1) ≡ false

-- only values of the set from 1 to the width are left
abbrev pub AreLeft : ℕ → ℕ → ℕ → Type 0
AreLeft width values left = (n : ℕ) → has_number left n ≡ true → (1 ≤ n) × (n ≤ width) × (has_number values n ≡ true)

-- at first those are left that the set has from 1 to the width
pub all_left : (width values left : ℕ) → ((n : ℕ) → has_number left n ≡ (has_number values n && (leb 1 n && leb n width))) → AreLeft width values left
all_left width values left is n e = grind (arith, nat_tests)

-- at first no value is done
none_done : (width values left k : ℕ) → ((n : ℕ) → has_number left n ≡ (has_number values n && (leb 1 n && leb n width))) → IsDone width values left k → ⊥
none_done width values left k is d = grind (arith, nat_tests)

-- once a value is done, still only values of the set from 1 to the width are left
pub fewer_left : (width values left value others : ℕ) → AreLeft width values left → AreOthers left value others → AreLeft width values others
fewer_left width values left value others are others_are n e = are n (others_inside left value others n others_are e)

-- ---- what the values that are done add

-- P holds of one of the values that are done
pub record IsDoneWith (P : ℕ → Type 0) (width values left : ℕ) : Type 0 where
  pub k : ℕ
  pub done : IsDone width values left k
  pub holds : P k

-- once one more value is done, P holds of one that is done if it did before, or if it holds of this value
done_with : (P : ℕ → Type 0) (width values left value others : ℕ) → AreLeft width values left → has_number left value ≡ true → AreOthers left value others
    → IsDoneWith P width values others ↔ (IsDoneWith P width values left ⊎ P (value - 1))
done_with P width values left value others are here others_are =
    grind (arith, nat_tests, others_have, others_inside, others_lack)

-- one of the values that are done gives the mask at the level
abbrev pub IsGiven : (ℕ → ℕ → ℕ → Type 0) → ℕ → ℕ → ℕ → ℕ → ℕ → Type 0
IsGiven Given width values left level mask = IsDoneWith (λ k. Given k level mask) width values left

-- before the first value nothing is given
pub given_none : (Given : ℕ → ℕ → ℕ → Type 0) (width values left : ℕ) (old : List (List ℕ))
    → ((n : ℕ) → has_number left n ≡ (has_number values n && (leb 1 n && leb n width))) → AreAdded (IsGiven Given width values left) old old
given_none Given width values left old is = added_none (IsGiven Given width values left) old (λ level mask r. none_done width values left r.k is r.done)

-- once one more value is done, the masks that it gives are added
pub given_more : (Given : ℕ → ℕ → ℕ → Type 0) (width values left value others : ℕ) (old mid now : List (List ℕ)) → AreLeft width values left
    → has_number left value ≡ true → AreOthers left value others → AreAdded (IsGiven Given width values left) old mid → AreAdded (Given (value - 1)) mid now
    → AreAdded (IsGiven Given width values others) old now
given_more Given width values left value others old mid now are here others_are before new =
    grind (arith, nat_tests, added_both, done_with)

-- the value gives some mask of some level
pub record IsGiving (Given : ℕ → ℕ → ℕ → Type 0) (value k : ℕ) : Type 0 where
  pub is : value ≡ k + 1
  pub level : ℕ
  pub mask : ℕ
  pub given : Given k level mask

-- `kept` has those of the values that are done that give some mask
abbrev pub AreGiving : (ℕ → ℕ → ℕ → Type 0) → ℕ → ℕ → ℕ → ℕ → Type 0
AreGiving Given width values left kept = (value : ℕ) → (has_number kept value ≡ true) ↔ IsDoneWith (IsGiving Given value) width values left

-- before the first value `kept` is empty
pub giving_none : (Given : ℕ → ℕ → ℕ → Type 0) (width values left kept : ℕ) → kept ≡ 0
    → ((n : ℕ) → has_number left n ≡ (has_number values n && (leb 1 n && leb n width))) → AreGiving Given width values left kept
giving_none Given width values left kept none is value = grind (arith, nat_tests, has_number-none, none_done)

-- a value that gives some mask is put into `kept`
pub giving_more : (Given : ℕ → ℕ → ℕ → Type 0) (width values left one others kept more : ℕ) → AreLeft width values left → has_number left one ≡ true
    → AreOthers left one others → ((level : ℕ) × (mask : ℕ) × Given (one - 1) level mask)
    → ((value : ℕ) → has_number more value ≡ (has_number kept value || eqb value one))
    → AreGiving Given width values left kept → AreGiving Given width values others more
giving_more Given width values left one others kept more are here others_are h11 more_is before value =
    grind (arith, nat_tests, done_with)

-- a value that gives no mask is left out of `kept`
pub giving_skipped : (Given : ℕ → ℕ → ℕ → Type 0) (width values left one others kept : ℕ) → AreLeft width values left → has_number left one ≡ true
    → AreOthers left one others → (((level : ℕ) × (mask : ℕ) × Given (one - 1) level mask) → ⊥)
    → AreGiving Given width values left kept → AreGiving Given width values others kept
giving_skipped Given width values left one others kept are here others_are none before value =
    let then = done_with (IsGiving Given value) width values left one others are here others_are in (
      λ e. then.1 (inl ((before value).0 e)),
      λ r. elim (then.0 r) [ inl was ↦ (before value).1 was | inr new ↦ absurd (none (new.level, new.mask, new.given)) ],
    )
