-- Masks that are added to the levels, one set after another, and whether there are any.
use Rattle.std.proofs.lemmas.Bool.Decides.{nat_tests}
use Rattle.std.proofs.Common.{◌≡◌, ℕ, ◌+◌, ◌<◌, ◌≤◌, ◌⊎◌, ◌↔◌, inl, inr, Bool, true, false, ◌||◌, List, arith}
use Rattle.tower_lines.specs.Inner.MaskSets.{has_mask, has_at}
use Rattle.tower_lines.specs.Inner.Levels.{AreAdded, AreNoted, IsCommon}

-- ---- one addition after another

-- where no mask is to be added, the levels stay as they are
pub added_none : (Added : ℕ → ℕ → Type 0) (old : List (List ℕ)) → ((level mask : ℕ) → Added level mask → ⊥) → AreAdded Added old old
added_none Added old none level mask = (λ e. inl e, λ r. elim r [ inl e ↦ e | inr a ↦ absurd (none level mask a) ])

-- levels that had no mask have exactly the masks that were added
pub added_alone : (Added : ℕ → ℕ → Type 0) (none now : List (List ℕ)) → ((level mask : ℕ) → has_at none level mask ≡ false) → AreAdded Added none now
    → (level mask : ℕ) → (has_at now level mask ≡ true) ↔ Added level mask
added_alone Added none now empty added level mask = grind (arith, nat_tests)

-- two additions, one after the other, are one addition of both
pub added_both : (First Second Added : ℕ → ℕ → Type 0) (old mid now : List (List ℕ)) → AreAdded First old mid → AreAdded Second mid now
    → ((level mask : ℕ) → Added level mask ↔ (First level mask ⊎ Second level mask)) → AreAdded Added old now
added_both First Second Added old mid now first second is level mask = grind (arith, nat_tests)

-- an addition of some masks is one of the same masks under another name
pub added_as : (Other Added : ℕ → ℕ → Type 0) (old now : List (List ℕ)) → AreAdded Other old now
    → ((level mask : ℕ) → Added level mask ↔ Other level mask) → AreAdded Added old now
added_as Other Added old now added is level mask = grind (arith, nat_tests)

-- where no mask is to be added, the levels stay, and `false` tells so
pub noted_none : (Added : ℕ → ℕ → Type 0) (old : List (List ℕ)) → ((level mask : ℕ) → Added level mask → ⊥) → AreNoted Added old old false
noted_none Added old none = grind (arith, nat_tests, added_none)

-- two additions that are noted are one, with some mask if either has some
pub noted_both : (First Second Added : ℕ → ℕ → Type 0) (old mid now : List (List ℕ)) (some more : Bool) → AreNoted First old mid some
    → AreNoted Second mid now more → ((level mask : ℕ) → Added level mask ↔ (First level mask ⊎ Second level mask)) → AreNoted Added old now (some || more)
noted_both First Second Added old mid now some more first second is = grind (arith, nat_tests, added_both)

-- what is noted of one set is noted of another with the same masks
pub noted_as : (Other Added : ℕ → ℕ → Type 0) (old now : List (List ℕ)) (some : Bool) → AreNoted Other old now some
    → ((level mask : ℕ) → Added level mask ↔ Other level mask) → AreNoted Added old now some
noted_as Other Added old now some noted is = grind (arith, nat_tests, added_as)

-- ---- one level

-- of the masks that `Added` names, those at one level
abbrev pub IsOnlyAt : ℕ → (ℕ → ℕ → Type 0) → ℕ → ℕ → Type 0
IsOnlyAt at Added level mask = (level ≡ at) × Added level mask

-- to put a set into a level is to add the masks of that level, if the set has exactly these
pub at_level : (Added : ℕ → ℕ → Type 0) (at : ℕ) (old now : List (List ℕ)) (set : List ℕ) → ((mask : ℕ) → (has_mask set mask ≡ true) ↔ Added at mask)
    → AreAdded (λ level mask. (level ≡ at) × (has_mask set mask ≡ true)) old now → AreAdded (IsOnlyAt at Added) old now
at_level Added at old now set is added = grind (arith, nat_tests, added_as)

-- if the masks to add at a level are those that it shares with a set, to put these there adds and tells them
pub common_at_level : (Added : ℕ → ℕ → Type 0) (at : ℕ) (fronts old now : List (List ℕ)) (set : List ℕ) (some : Bool)
    → ((mask : ℕ) → Added at mask ↔ IsCommon fronts set at mask)
    → AreAdded (λ level mask. (level ≡ at) × IsCommon fronts set at mask) old now → (some ≡ true) ↔ ((mask : ℕ) × IsCommon fronts set at mask)
    → AreNoted (IsOnlyAt at Added) old now some
common_at_level Added at fronts old now set some is added told = grind (arith, nat_tests, noted_as)

-- where all masks to be added are at one level, they are those at this level
pub only_level : (Added : ℕ → ℕ → Type 0) (at : ℕ) → ((level mask : ℕ) → Added level mask → level ≡ at)
    → (level mask : ℕ) → Added level mask ↔ IsOnlyAt at Added level mask
only_level Added at alone level mask = (λ a. (alone level mask a, a), λ s. s.1)

-- ---- one level after another

-- of the masks that `Added` names, those at levels below `end`
abbrev pub IsBelow : ℕ → (ℕ → ℕ → Type 0) → ℕ → ℕ → Type 0
IsBelow end Added level mask = (level < end) × Added level mask

-- no mask is below the first level at which any is to be added
pub none_below : (Added : ℕ → ℕ → Type 0) (first : ℕ) → ((level mask : ℕ) → Added level mask → first ≤ level)
    → (level mask : ℕ) → IsBelow first Added level mask → ⊥
none_below Added first from level mask b = let late = from level mask b.1 in omega (arith, b.0)

-- the masks below the next level are those below this level and those at it
pub one_more_below : (Added : ℕ → ℕ → Type 0) (at : ℕ)
    → (level mask : ℕ) → IsBelow (at + 1) Added level mask ↔ (IsBelow at Added level mask ⊎ IsOnlyAt at Added level mask)
one_more_below Added at level mask = grind (arith, nat_tests)

-- where all masks to be added are at levels below `end`, they are those below it
pub all_below : (Added : ℕ → ℕ → Type 0) (end : ℕ) → ((level mask : ℕ) → Added level mask → level < end)
    → (level mask : ℕ) → Added level mask ↔ IsBelow end Added level mask
all_below Added end to level mask = (λ a. (to level mask a, a), λ b. b.1)
