-- The steps of the greatest value, the least, and those between, and the masks to and from which they lead.
use Rattle.std.proofs.lemmas.Bool.Decides.{nat_tests}
use Rattle.std.proofs.Common.{◌≡◌, ℕ, ◌+◌, ◌-◌, ◌^◌, ◌<◌, ◌≤◌, ◌⊎◌, ◌↔◌, inl, inr, true, false, not, ◌&&◌, ◌||◌, eqb, leb, ltb, List, [], get_or, refl, sym, ap, ◌∙◌, arith, count_ones, Bool}
use Rattle.std.proofs.lemmas.Bool.{ltb-true, leb-true, lt-ltb, le-leb, and_parts, and_from, not-true, not_from_false}
use Rattle.std.proofs.Math.Bool.{and_comm, and_assoc, or_comm}
use Rattle.std.proofs.lemmas.Nat.{pow_pos}
use Rattle.std.proofs.lemmas.Grind.{pow_more}
use Rattle.number_sets.specs.Sets.{has_number}
use Rattle.number_sets.proofs.Members.{power_most}
use Rattle.number_sets.proofs.OneMore.{added_with, added_without, added_lacks, added_has}
use Rattle.tower_lines.specs.Inner.MaskSets.{has_mask, has_at}
use Rattle.tower_lines.specs.Inner.Levels.{IsMove, Within, Hidden, Shown, LacksLeast, IsLastStep, IsLeastStep, IsLowStep, IsLevelStep, Between, AreFew, IsCommon, IsLinked, IsReachedBy, LeadsToLevels, IsPassing}

-- ---- which kind of step a value makes

-- each value has only steps of its own kind: the greatest, the least, and those between them
pub only_greatest : {place width clue k level mask level_then mask_then : ℕ} → k + 1 ≡ width → IsLevelStep place width clue k level mask level_then mask_then
    → IsLastStep width clue k level mask level_then mask_then
only_greatest top h1 = grind (arith, nat_tests)

only_least : {place width clue k level mask level_then mask_then : ℕ} → k ≡ 0 → 1 < width → IsLevelStep place width clue k level mask level_then mask_then
    → IsLeastStep place width clue k level mask level_then mask_then
only_least least more h2 = grind (arith, nat_tests)

only_between : {place width clue k level mask level_then mask_then : ℕ} → k + 2 < width → IsLevelStep place width clue (k + 1) level mask level_then mask_then
    → IsLowStep width clue k level mask level_then mask_then
only_between less h1 = grind (arith, nat_tests)

-- ---- a link that holds of known masks alone

-- the level is `at`, the mask is `other`, and the test passes
record IsAt (at other : ℕ) (test : Bool) (level mask : ℕ) : Type 0 where
  level_is : level ≡ at
  mask_is : mask ≡ other
  passes : test ≡ true

found_at : {at other level mask : ℕ} {test : Bool} (levels : List (List ℕ)) → IsAt at other test level mask → has_at levels level mask ≡ true
    → test && has_at levels at other ≡ true
found_at levels s here = and_from _ _ s.passes (rw (s.level_is, s.mask_is) at here)

-- if a link holds of `other` alone, at two levels by tests, `whole` tells if the levels have a mask with it
linked_two : (Link : ℕ → ℕ → Type 0) (levels : List (List ℕ)) (first second other : ℕ) (far near whole : Bool)
    → whole ≡ ((near && has_at levels second other) || (far && has_at levels first other))
    → (far ≡ true → Link first other) → (near ≡ true → Link second other)
    → ((level mask : ℕ) → Link level mask → IsAt first other far level mask ⊎ IsAt second other near level mask) → (whole ≡ true) ↔ IsLinked Link levels
linked_two Link levels first second other far near whole is to_first to_second only = grind (arith, nat_tests, found_at)

-- if a link holds of `other` alone, at one level by a test, `whole` tells if the levels have a mask with it
linked_one : (Link : ℕ → ℕ → Type 0) (levels : List (List ℕ)) (at other : ℕ) (test whole : Bool) → whole ≡ (test && has_at levels at other)
    → (test ≡ true → Link at other) → ((level mask : ℕ) → Link level mask → IsAt at other test level mask) → (whole ≡ true) ↔ IsLinked Link levels
linked_one Link levels at other test whole is to only = grind (arith, nat_tests, linked_two)

-- if a link holds of no mask, the levels have no mask with it, as the set lacks this one
pub linked_none : (Link : ℕ → ℕ → Type 0) (levels : List (List ℕ)) (set : List ℕ) (mask : ℕ) → has_mask set mask ≡ false
    → ((level mask : ℕ) → Link level mask → ⊥) → (has_mask set mask ≡ true) ↔ IsLinked Link levels
linked_none Link levels set mask empty none = grind (arith, nat_tests)

-- ---- the greatest value

-- the greatest value leads to exactly those masks at the last level that the level before has
pub greatest_reached : (place width clue k : ℕ) (levels : List (List ℕ)) (set : List ℕ) → k + 1 ≡ width → 0 < clue → set ≡ get_or levels (clue - 1) []
    → (mask : ℕ) → (has_mask set mask ≡ true) ↔ IsReachedBy place width clue k levels clue mask
greatest_reached place width clue k levels set top some is mask = grind (arith, nat_tests, linked_one, only_greatest)

-- the greatest value leads from exactly those masks at the level before the last that the last level has
pub greatest_leads : (place width clue k : ℕ) (after : List (List ℕ)) (set : List ℕ) → k + 1 ≡ width → 0 < clue → set ≡ get_or after clue []
    → (mask : ℕ) → (has_mask set mask ≡ true) ↔ LeadsToLevels place width clue k after (clue - 1) mask
greatest_leads place width clue k after set top some is mask = grind (arith, nat_tests, linked_one, only_greatest)

-- ---- the least value

-- as a later value the least keeps level and mask: it leads to masks that lack it, by their count of values
pub least_reached : (place clue count level : ℕ) (levels : List (List ℕ)) (set : List ℕ) → 0 < place
    → ((mask : ℕ) → has_mask set mask ≡ (has_at levels level mask && eqb (count_ones mask) count))
    → ((mask : ℕ) → (count_ones mask ≡ count) ↔ LacksLeast place clue level mask)
    → (width mask : ℕ) → 1 < width → (has_mask set mask ≡ true) ↔ IsReachedBy place width clue 0 levels level mask
least_reached place clue count level levels set some counted told width mask more =
    grind (arith, nat_tests, linked_one, and_comm, only_least)

-- as a later value the least leads from the masks of its level that lack it, by their count of values
pub least_leads : (place clue count level : ℕ) (after : List (List ℕ)) (set : List ℕ) → 0 < place
    → ((mask : ℕ) → has_mask set mask ≡ (has_at after level mask && eqb (count_ones mask) count))
    → ((mask : ℕ) → (count_ones mask ≡ count) ↔ LacksLeast place clue level mask)
    → (width mask : ℕ) → 1 < width → (has_mask set mask ≡ true) ↔ LeadsToLevels place width clue 0 after level mask
least_leads place clue count level after set some counted told width mask more =
    grind (arith, nat_tests, linked_one, and_comm, only_least)

-- as the first value the least leads to a level from the masks of the level before
pub least_first_reached : (place clue level : ℕ) (levels : List (List ℕ)) (set : List ℕ) → place ≡ 0 → 1 ≤ level → level < clue
    → set ≡ get_or levels (level - 1) []
    → (width mask : ℕ) → 1 < width → (has_mask set mask ≡ true) ↔ IsReachedBy place width clue 0 levels level mask
least_first_reached place clue level levels set none some early is width mask more =
    grind (arith, nat_tests, linked_one, only_least)

-- as the first value the least leads from a level to the masks of the next
pub least_first_leads : (place clue level : ℕ) (after : List (List ℕ)) (set : List ℕ) → place ≡ 0 → level + 1 < clue
    → set ≡ get_or after (level + 1) []
    → (width mask : ℕ) → 1 < width → (has_mask set mask ≡ true) ↔ LeadsToLevels place width clue 0 after level mask
least_first_leads place clue level after set none early is width mask more =
    grind (arith, nat_tests, linked_one, only_least)

-- as the first value the least doesn't lead to the last level
pub least_first_late : {place width clue level mask level_then mask_then : ℕ} → 1 < width → place ≡ 0 → clue ≤ level_then ⊎ clue ≤ level + 1
    → IsLevelStep place width clue 0 level mask level_then mask_then → ⊥
least_first_late more none late s = grind (arith, nat_tests, only_least)

-- ---- a value between the least and the greatest

-- a value between leads to a mask that has it, from that mask without it
put_in : {place width clue k level level_then mask : ℕ} → k + 2 < width → has_number mask k ≡ true → IsMove clue k level (mask - 2 ^ k) level_then
    → IsLevelStep place width clue (k + 1) level (mask - 2 ^ k) level_then mask
put_in {k = k} {mask = mask} less has moves =
    let most = power_most mask k has in
    let back : mask - 2 ^ k + 2 ^ k ≡ mask = omega arith in
    Between k refl record { value = less; fresh = added_lacks (added_without (mask - 2 ^ k) k mask has back); more = sym back; moves = moves }

-- a value between leads from a mask that lacks it, to that mask with it
put_to : {place width clue k level level_then mask : ℕ} → k + 2 < width → not (has_number mask k) ≡ true → IsMove clue k level mask level_then
    → IsLevelStep place width clue (k + 1) level mask level_then (mask + 2 ^ k)
put_to {k = k} less lacks moves = Between k refl record { value = less; fresh = not-true _ lacks; more = refl; moves = moves }

-- to the last level a value between leads from the last level's masks that lack it
pub between_reached_last : (clue k : ℕ) (levels : List (List ℕ)) (from set : List ℕ) → from ≡ get_or levels clue []
    → ((m : ℕ) → has_mask set m ≡ (has_number m k && has_mask from (m - 2 ^ k)))
    → (place width mask : ℕ) → k + 2 < width → (has_mask set mask ≡ true) ↔ IsReachedBy place width clue (k + 1) levels clue mask
between_reached_last clue k levels from set is with place width mask less =
    linked_one (λ l x. IsLevelStep place width clue (k + 1) l x clue mask) levels clue (mask - 2 ^ k) (has_number mask k) (has_mask set mask)
    (with mask ∙ ap (λ (s : List ℕ). has_number mask k && has_mask s (mask - 2 ^ k)) is)
    (λ has. put_in less has (Within refl refl))
    (λ l x s. let b = only_between less s in
    record {
      level_is = elim b.moves [ Within last same ↦ last | Hidden low large same ↦ absurd (omega arith) | Shown small next low ↦ absurd (omega arith) ];
      mask_is = omega (arith, b.more);
      passes = added_has (added_with x k mask b.fresh b.more);
    })

-- from the last level a value between leads to the last level's masks that have it
pub between_leads_last : (clue k : ℕ) (after : List (List ℕ)) (from set : List ℕ) → from ≡ get_or after clue []
    → ((m : ℕ) → has_mask set m ≡ (not (has_number m k) && has_mask from (m + 2 ^ k)))
    → (place width mask : ℕ) → k + 2 < width → (has_mask set mask ≡ true) ↔ LeadsToLevels place width clue (k + 1) after clue mask
between_leads_last clue k after from set is without place width mask less =
    linked_one (λ l x. IsLevelStep place width clue (k + 1) clue mask l x) after clue (mask + 2 ^ k) (not (has_number mask k)) (has_mask set mask)
    (without mask ∙ ap (λ (s : List ℕ). not (has_number mask k) && has_mask s (mask + 2 ^ k)) is)
    (λ lacks. put_to less lacks (Within refl refl))
    (λ l x s. let b = only_between less s in
    record {
      level_is = elim b.moves [ Within last same ↦ same | Hidden low large same ↦ absurd (omega arith) | Shown small next low ↦ absurd (omega arith) ];
      mask_is = b.more;
      passes = not_from_false _ b.fresh;
    })

-- a test before a choice of two is the same test before each of them
test_each : (test first far second near : Bool) → (test && ((first && far) || (second && near))) ≡ (((test && near) && second) || ((test && far) && first))
test_each false first far second near = refl
test_each true first far second near = rw (and_comm first far, and_comm second near) (or_comm (far && first) (near && second))

-- to a level before the last a value leads from masks there that hide it, and others of the level before
pub between_reached : (clue k level : ℕ) (levels : List (List ℕ)) (from lower hiding showing either set : List ℕ) → 1 ≤ level → level < clue
    → from ≡ get_or levels level [] → lower ≡ get_or levels (level - 1) []
    → ((m : ℕ) → has_mask hiding m ≡ (has_mask from m && leb (2 ^ k) m)) → ((m : ℕ) → has_mask showing m ≡ (has_mask lower m && ltb m (2 ^ k)))
    → ((m : ℕ) → has_mask either m ≡ (has_mask hiding m || has_mask showing m))
    → ((m : ℕ) → has_mask set m ≡ (has_number m k && has_mask either (m - 2 ^ k)))
    → (place width mask : ℕ) → k + 2 < width → (has_mask set mask ≡ true) ↔ IsReachedBy place width clue (k + 1) levels level mask
between_reached clue k level levels from lower hiding showing either set some early is lower_is hides shows are with place width mask less =
    let x = mask - 2 ^ k in
    let far = leb (2 ^ k) x in
    let near = ltb x (2 ^ k) in
    linked_two (λ l y. IsLevelStep place width clue (k + 1) l y level mask) levels level (level - 1) x (has_number mask k && far) (has_number mask k && near)
    (has_mask set mask)
    (rw (← is, ← lower_is) (with mask ∙ ap (λ b. has_number mask k && b) (are x ∙ rw (hides x, shows x) refl) ∙ test_each _ _ far _ near))
    (λ p. let (has, large) = and_parts _ _ p in put_in less has (Hidden early (leb-true (2 ^ k) x large) refl))
    (λ p. let (has, small) = and_parts _ _ p in put_in less has (Shown (ltb-true x (2 ^ k) small) (omega arith) early))
    (λ l y s.
    let b = only_between less s in
    let has = added_has (added_with y k mask b.fresh b.more) in
    let back : y ≡ x = omega (arith, b.more) in
    elim b.moves [
      | Within last same ↦ absurd (omega arith)
      | Hidden low large same ↦ inl record { level_is = sym same; mask_is = back; passes = and_from _ _ has (le-leb (2 ^ k) x (omega arith)) }
      | Shown small next low ↦ inr record { level_is = omega arith; mask_is = back; passes = and_from _ _ has (lt-ltb x (2 ^ k) (omega arith)) }
    ])

-- the mask lacks the value and has a greater one, so the mask with it is not below the next power
abbrev is_hidden : ℕ → ℕ → Bool
is_hidden k mask = not (has_number mask k) && leb (2 ^ (k + 1)) (mask + 2 ^ k)

-- all values of the mask are lower, so the mask with it is below the next power
abbrev is_shown : ℕ → ℕ → Bool
is_shown k mask = not (has_number mask k) && ltb (mask + 2 ^ k) (2 ^ (k + 1))

-- a hidden value keeps the level, and a shown one leads to the next: both to the mask with it
hidden_step : {place width clue level : ℕ} (k mask : ℕ) → k + 2 < width → level < clue → is_hidden k mask ≡ true
    → IsLevelStep place width clue (k + 1) level mask level (mask + 2 ^ k)
hidden_step k mask less early p =
    let (lacks, size) = and_parts _ _ p in
    let large = leb-true (2 ^ (k + 1)) (mask + 2 ^ k) size in
    put_to less lacks (Hidden early (omega (arith, pow_more 2 k)) refl)

shown_step : {place width clue level : ℕ} (k mask : ℕ) → k + 2 < width → level + 1 < clue → is_shown k mask ≡ true
    → IsLevelStep place width clue (k + 1) level mask (level + 1) (mask + 2 ^ k)
shown_step k mask less early p =
    let (lacks, size) = and_parts _ _ p in
    let small = ltb-true (mask + 2 ^ k) (2 ^ (k + 1)) size in
    put_to less lacks (Shown (omega (arith, pow_more 2 k)) refl early)

-- from a level before the last a hidden value keeps the level, and a shown one leads on, but not to the last
step_from_low : {place width clue level : ℕ} (k mask : ℕ) → k + 2 < width → level < clue → (l y : ℕ) → IsLevelStep place width clue (k + 1) level mask l y
    → IsAt level (mask + 2 ^ k) (is_hidden k mask) l y ⊎ (IsAt (level + 1) (mask + 2 ^ k) (is_shown k mask) l y × (level + 1 < clue))
step_from_low k mask less early l y s = grind (arith, nat_tests, only_between, pow_more)

-- from a level further from the last a value leads to masks there that hide it, and the next's that show it
pub between_leads : (clue k level : ℕ) (after : List (List ℕ)) (same_level next hidden shown either set : List ℕ) → level + 1 < clue
    → same_level ≡ get_or after level [] → next ≡ get_or after (level + 1) []
    → ((m : ℕ) → has_mask hidden m ≡ (has_mask same_level m && leb (2 ^ (k + 1)) m)) → ((m : ℕ) → has_mask shown m ≡ (has_mask next m && ltb m (2 ^ (k + 1))))
    → ((m : ℕ) → has_mask either m ≡ (has_mask hidden m || has_mask shown m))
    → ((m : ℕ) → has_mask set m ≡ (not (has_number m k) && has_mask either (m + 2 ^ k)))
    → (place width mask : ℕ) → k + 2 < width → (has_mask set mask ≡ true) ↔ LeadsToLevels place width clue (k + 1) after level mask
between_leads clue k level after same_level next hidden shown either set early is next_is hides shows are without place width mask less =
    let x = mask + 2 ^ k in
    let lacks = not (has_number mask k) in
    linked_two (λ l y. IsLevelStep place width clue (k + 1) level mask l y) after level (level + 1) x (is_hidden k mask) (is_shown k mask) (has_mask set mask)
    (rw (← is, ← next_is) (without mask ∙ ap (λ b. lacks && b) (are x ∙ rw (hides x, shows x) refl) ∙ test_each lacks _ _ _ _))
    (hidden_step k mask less (omega arith)) (shown_step k mask less early)
    (λ l y s. elim (step_from_low k mask less (omega arith) l y s) [ inl h ↦ inl h | inr n ↦ inr n.0 ])

-- from the level before the last a value leads to masks there that hide it, and to none at the last
pub between_leads_hidden : (clue k level : ℕ) (after : List (List ℕ)) (same_level hidden set : List ℕ) → level < clue → clue ≤ level + 1
    → same_level ≡ get_or after level [] → ((m : ℕ) → has_mask hidden m ≡ (has_mask same_level m && leb (2 ^ (k + 1)) m))
    → ((m : ℕ) → has_mask set m ≡ (not (has_number m k) && has_mask hidden (m + 2 ^ k)))
    → (place width mask : ℕ) → k + 2 < width → (has_mask set mask ≡ true) ↔ LeadsToLevels place width clue (k + 1) after level mask
between_leads_hidden clue k level after same_level hidden set early late is hides without place width mask less =
    let x = mask + 2 ^ k in
    let lacks = not (has_number mask k) in
    linked_one (λ l y. IsLevelStep place width clue (k + 1) level mask l y) after level x (is_hidden k mask) (has_mask set mask)
    (rw (← is) (without mask ∙ ap (λ b. lacks && b) (hides x ∙ and_comm (has_mask same_level x) _) ∙ sym (and_assoc lacks _ _)))
    (hidden_step k mask less early)
    (λ l y s. elim (step_from_low k mask less early l y s) [ inl h ↦ h | inr n ↦ absurd (omega (arith, n.1)) ])

-- ---- where the masks are to which a value leads, and from which

-- the masks of `fronts` at a level from which a value leads on are those that the set of such masks has, too
pub shared_passing : (place width clue k level : ℕ) (fronts after : List (List ℕ)) (set : List ℕ) → level ≤ clue
    → ((m : ℕ) → (has_mask set m ≡ true) ↔ LeadsToLevels place width clue k after level m)
    → (mask : ℕ) → IsPassing place width clue k fronts after level mask ↔ IsCommon fronts set level mask
shared_passing place width clue k level fronts after set low leads mask = grind (arith, nat_tests)

-- a level from 1 to the last that is at most one above the number of values before
pub record IsInReach (clue place level : ℕ) : Type 0 where
  pub some : 1 ≤ level
  pub next : level ≤ place + 1
  pub last : level ≤ clue

-- a value leads from the levels of starts with `place` values only to levels in reach
pub in_reach : (place width clue k : ℕ) (levels : List (List ℕ)) → AreFew clue place levels
    → (level mask : ℕ) → IsReachedBy place width clue k levels level mask → IsInReach clue place level
in_reach place width clue k levels few level mask r = grind (arith, nat_tests, pow_pos)
