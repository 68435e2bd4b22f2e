-- The counts of states: how they are read, and what they say of the records that were met.
use Rattle.std.proofs.lemmas.Bool.Decides.{nat_tests}
use Rattle.std.proofs.Common.{◌≡◌, ℕ, zero, suc, ◌+◌, ◌≤◌, lit<, Bool, true, false, ◌&&◌, cond, List, [], ◌∷◌, ◌++◌, length, Option, Some, None, is_some, Result, Ok, refl, sym, ap, ◌∙◌, subst, arith, length-append}
use Rattle.std.specs.Fmt.{decimal}
use Rattle.std.proofs.lemmas.List.{append-nil, append_assoc}
use borrow.Author.Tests.{leb-true}
use Rattle.byte_text.specs.Decimals.{decimal_value}
use Rattle.byte_text.proofs.DecimalLaws.{number_taken, number_again}
use Rattle.byte_text.proofs.ReadingLaws.{bind_taken}
use Rattle.play_midend.specs.declared.session.TheConstants.{MOST_STATES}
use Rattle.play_save.specs.declared.fault.LoadFault.{LoadFault}
use Rattle.play_save.specs.declared.fault.LoadFault.TheVariants.{EarlyState}
use Rattle.play_save.specs.declared.key.StateKey.{StateKey}
use Rattle.play_save.specs.declared.key.WhoseParams.TheVariants.{Next}
use Rattle.play_save.specs.declared.key.KeptKey.TheVariants.{Seed}
use Rattle.play_save.specs.declared.key.WhichCount.{WhichCount}
use Rattle.play_save.specs.declared.key.WhichCount.TheVariants.{States, Position}
use Rattle.play_save.specs.declared.key.HeaderKey.TheVariants.{ParamsOf, Kept, Count}
use Rattle.play_save.specs.declared.key.Key.{Key}
use Rattle.play_save.specs.declared.key.Key.TheVariants.{Header, State}
use Rattle.play_save.specs.KeyedRecords.{KeyedRecord, states_in}
use Rattle.play_save.specs.SaveTexts.{SavedGame}
use Rattle.play_save.specs.FirstFaults.{MetValue, met, count_met, positive, count_at, fault_unless, go_together, count_fault, behind_counts, fault_by, has_all, is_complete, Listing, needed, met_in}
use Rattle.play_save.specs.Inner.Taking.{IsPlayable, added}
use Rattle.play_midend.proofs.OptionSteps.{and_then_taken}
use Rattle.play_save.proofs.Meeting.{once_taken, met_added}
use Rattle.play_save.proofs.RightLists.{AreRight, right_end, needed_taken}

-- a number that isn't 0 is taken as it is, and no other
positive_taken : (m n : ℕ) → positive m ≡ Some n → (m ≡ n) × (1 ≤ n)
positive_taken zero n is = cc
positive_taken (suc m) n is = let same : suc m ≡ n = cc in (same, omega arith)

positive_again : (n : ℕ) → 1 ≤ n → positive n ≡ Some n
positive_again zero some = absurd (omega arith)
positive_again (suc n) some = refl

-- a count that is read is one from 1 to MOST_STATES, and its text is the decimal of it
pub count_taken : (value : List ℕ) (n : ℕ) → count_at value ≡ Some n → (value ≡ decimal n) × (1 ≤ n) × (n ≤ MOST_STATES)
count_taken value n is =
    let read = and_then_taken positive (decimal_value MOST_STATES value) n is in
    let some = positive_taken read.value n read.rest in
    let number = number_taken MOST_STATES read.value value (lit< tt) read.gives in
    (number.0 ∙ ap decimal some.0, some.1, omega (arith, number.1, some.0))

-- the decimal of a number from 1 to MOST_STATES is read as this count
pub count_again : (n : ℕ) → 1 ≤ n → n ≤ MOST_STATES → count_at (decimal n) ≡ Some n
count_again n some few = rw (number_again MOST_STATES n few (lit< tt)) (positive_again n some)

-- if a test gives no fault, it holds
pub fault_unless_taken : (test : Bool) (fault : LoadFault) → fault_unless test fault ≡ None → test ≡ true
fault_unless_taken true fault none = refl
fault_unless_taken false fault none = cc

-- a count without a fault can be read, and goes together with the other one, if that was met
pub count_faultless : (which : WhichCount) (read other : Option ℕ) → count_fault which read other ≡ None
    → (n : ℕ) × (read ≡ Some n) × ((m : ℕ) → other ≡ Some m → go_together which n m ≡ true)
count_faultless which read other none = grind (arith, nat_tests, fault_unless_taken)

-- no state was met before the count of states, and counts go together with each other and with the states
pub record IsSound (m : MetValue) : Type 0 where
  pub early : count_met m States ≡ None → length m.states ≡ 0
  pub few : (n : ℕ) → count_met m States ≡ Some n → length m.states + 1 ≤ n
  pub inside : (n p : ℕ) → count_met m States ≡ Some n → count_met m Position ≡ Some p → p ≤ n

-- both counts were met before a state without a fault
pub counts_met : (m : MetValue) (fault : Option LoadFault) → behind_counts m fault ≡ None
    → ((which : WhichCount) → (n : ℕ) × (count_met m which ≡ Some n)) × (fault ≡ None)
counts_met m fault none = by_counts (count_met m States) (count_met m Position) refl refl none
  where
    by_counts : (count position : Option ℕ) → count_met m States ≡ count → count_met m Position ≡ position
        → cond (is_some count && is_some position) fault (Some EarlyState) ≡ None
        → ((which : WhichCount) → (n : ℕ) × (count_met m which ≡ Some n)) × (fault ≡ None)
    by_counts None position c p e = cc
    by_counts (Some n) None c p e = cc
    by_counts (Some n) (Some q) c p e = (
      λ which. elim which as (λ w. (k : ℕ) × (count_met m w ≡ Some k)) [
        | States ↦ (n, c)
        | Position ↦ (q, p)
      ],
      e,
    )

sound_count : {P : Type 0} (game : SavedGame P) (m : MetValue) (which : WhichCount) (value : List ℕ)
    → IsSound m → fault_by game m (Header (Count which)) value ≡ None → IsSound (added m (Header (Count which)) value)
sound_count game m which value s none = grind (arith, nat_tests, once_taken, count_faultless, count_taken)

sound_state : {P : Type 0} (game : SavedGame P) (m : MetValue) (k : StateKey) (value : List ℕ)
    → IsSound m → is_complete m ≡ false → fault_by game m (State k) value ≡ None → IsSound (added m (State k) value)
sound_state game m k value s undone none = grind (arith, nat_tests, counts_met, length-append)

pub sound_added : {P : Type 0} (game : SavedGame P) (m : MetValue) (k : Key) (value : List ℕ)
    → IsSound m → is_complete m ≡ false → fault_by game m k value ≡ None → IsSound (added m k value)
sound_added game m (Header (Count which)) value s undone none = sound_count game m which value s none
sound_added game m (State k) value s undone none = sound_state game m k value s undone none
sound_added game m (Header (ParamsOf Next)) value s undone none =
    record { early = s.early; few = s.few; inside = s.inside }
sound_added game m (Header (Kept Seed)) value s undone none =
    record { early = s.early; few = s.few; inside = s.inside }
sound_added game m k value s undone none = record { early = s.early; few = s.few; inside = s.inside }

-- what was met stays sound along records without a fault
sound_along : {P : Type 0} (game : SavedGame P) (before rs : List KeyedRecord)
    → IsSound (met before) → AreRight game before rs → IsSound (met (before ++ rs))
sound_along game before [] s right = rw (append-nil before) s
sound_along game before (r ∷ rs) s (undone, faultless, right) =
    let next = sound_added game (met before) r.key r.value s undone faultless in
    subst (λ b. IsSound (met b)) (append_assoc before (r ∷ []) rs)
    (sound_along game (before ++ r ∷ []) rs (rw (met_added game before r.key r.value faultless) next) right)

-- both counts were met, with all states that they ask for
pub record Counted (m : MetValue) : Type 0 where
  pub n : ℕ
  pub p : ℕ
  pub count_is : count_met m States ≡ Some n
  pub position_is : count_met m Position ≡ Some p
  pub states : length m.states + 1 ≡ n
  pub few : n ≤ MOST_STATES
  pub first : 1 ≤ p
  pub inside : p ≤ n

-- if no record has a fault up to the last that is needed, both counts were met, with all their states
pub counted : {P : Type 0} (game : SavedGame P) (rs : List KeyedRecord) → AreRight game [] rs → Counted (met rs)
counted game rs right = by_counts (count_met (met rs) States) (count_met (met rs) Position) refl refl (right_end game [] rs right)
  where
    sound : IsSound (met rs)
    sound =
        sound_along game [] rs (record { early = λ is. refl; few = λ n is. cc; inside = λ n p is at. cc }) right

    in_range : (which : WhichCount) (n : ℕ) → count_met (met rs) which ≡ Some n → (1 ≤ n) × (n ≤ MOST_STATES)
    in_range which n is =
        let read = and_then_taken count_at ((met rs).first (Count which)) n is in (let (text, first, last) = count_taken read.value n read.rest in (first, last))

    by_counts : (count position : Option ℕ) → count_met (met rs) States ≡ count → count_met (met rs) Position ≡ position
        → has_all count position (length (states_in rs)) ≡ true → Counted (met rs)
    by_counts None position c p done = cc
    by_counts (Some n) None c p done = cc
    by_counts (Some n) (Some q) c p done = record {
      n = n;
      p = q;
      count_is = c;
      position_is = p;
      states = omega (arith, sound.few n c, leb-true n (length (states_in rs) + 1) done);
      few = (in_range States n c).1;
      first = (in_range Position q p).0;
      inside = sound.inside n q c p;
    }

pub playable : {P : Type 0} (game : SavedGame P) (listing : Listing) (m : MetValue)
    → met_in game listing ≡ Ok m → IsPlayable m
playable game listing m is =
    let step = bind_taken (needed game [] listing) (λ rs. let r : Result MetValue LoadFault = Ok (met rs) in r) m is in
    let need = needed_taken game [] listing step.value step.gives in
    let same : met need.more ≡ m = ap met (sym need.all_is) ∙ (let e = step.rest in cc) in
    subst IsPlayable same (fits (counted game need.more need.right))
  where
    fits : {m : MetValue} → Counted m → IsPlayable m
    fits c = record {
      few = omega (arith, c.states, c.few);
      inside = λ position at.
          let here = c.position_is in
          let same : c.p ≡ position = cc in
          (omega (arith, same, c.first), omega (arith, same, c.inside, c.states));
    }
