-- One place after another has the levels of the starts with so many values.
use Rattle.std.proofs.Common.{◌≡◌, ℕ, ◌+◌, ◌-◌, ◌<◌, ◌++◌, false, List, [], length, get_or, set, sym, ap, ◌∙◌, arith, rules, length-set}
use Rattle.std.proofs.lemmas.List.{get_or-set_other, set-append_right}
use Rattle.std.proofs.lemmas.Grind.{get_or_default_zero}
use Rattle.tower_lines.specs.Inner.MaskSets.{has_at}
use Rattle.tower_lines.specs.Inner.Levels.{AreReached, IsReachedFrom}
use Rattle.tower_lines.proofs.LevelAdditions.{added_alone}
use Rattle.tower_lines.proofs.LevelTables.{first_reached, next_reached, reached_few, set_each}
use Rattle.tower_lines.proofs.line_fillings.add_starts.Goals as goal

-- a write at the start of the second part is one after the first part
set_after : {A : Type 0} → (front back : List A) (n : ℕ) (x : A) → length front ≡ n → front ++ set back 0 x ≡ set (front ++ back) n x
set_after front back n x long =
    let none : 0 ≡ n - n = omega arith in
    ap (λ (k : ℕ). front ++ set back k x) none ∙ sym (set-append_right front back n n x long (omega arith))

pub loop-place-init : goal.loop-place-init
loop-place-init g c =
    let first = c.first_levels.result in
    let starts = c.args.starts.now in
    let sets = c.args.sets.now in
    record {
      long = length-set starts 0 first ∙ search rules;
      reached = λ p low. set_each (AreReached sets c.args.clue) starts 0 p first [] (search rules)
          (first_reached first c.requires.some c.first_levels.ensures) (λ other. absurd (omega arith));
      none = λ p level mask after inside.
          ap (λ (levels : List (List ℕ)). has_at levels level mask) (get_or-set_other starts 0 p first [] (omega arith)) ∙ c.requires.blank p level mask inside;
    }

pub add_levels-requires : goal.add_levels-requires
add_levels-requires g c =
    let place = c.loop-place.place in
    let levels = get_or c.split_at_mut-done.result.0.now place [] in
    let same = c.split_at_mut-done.ensures.by_index.0 place [] (omega arith) in
    let reached : AreReached c.args.sets.now c.args.clue place levels = rw same (c.loop-place.invariant.reached place (omega arith)) in
    (search rules, (search rules, (omega arith, (c.requires.room, (c.requires.clue, (c.requires.small, reached_few levels reached))))))

pub loop-place-preserved : goal.loop-place-preserved
loop-place-preserved g c =
    let sets = c.args.sets.now in
    let clue = c.args.clue in
    let starts = c.loop-place.starts in
    let place = c.loop-place.place in
    let parts = c.split_at_mut-done.ensures in
    let front = c.split_at_mut-done.result.0.now in
    let back = c.split_at_mut-done.result.1.now in
    let levels = get_or front place [] in
    let next = c.add_levels.new.next in
    let joined : front ++ set back 0 next ≡ set starts (place + 1) next =
    set_after front back (place + 1) next parts.front_len ∙ ap (λ (s : List (List (List ℕ))). set s (place + 1) next) (sym parts.value) in
    let inside : place < length sets = omega arith in
    let before : AreReached sets clue place levels = rw (parts.by_index.0 place [] (omega arith)) (c.loop-place.invariant.reached place (omega arith)) in
    let values : c.index-sets-place.result ≡ get_or sets place 0 = c.index-sets-place.is ∙ get_or_default_zero sets place c.index-sets-place.result inside in
    let blank : (level mask : ℕ) → has_at (get_or back 0 []) level mask ≡ false = λ level mask. ap (λ (l : List (List ℕ)). has_at l level mask) (parts.by_index.1 0 []) ∙ c.loop-place.invariant.none (place + 1 + 0) level mask (omega arith) (omega arith) in
    let reached = added_alone (IsReachedFrom place (length sets) clue c.index-sets-place.result levels) (get_or back 0 []) next blank c.add_levels.ensures in
    let after : AreReached sets clue (place + 1) next = next_reached next inside before (rw values at reached) in
    record {
      long = ap (λ (s : List (List (List ℕ))). length s) joined ∙ length-set starts (place + 1) next ∙ c.loop-place.invariant.long;
      reached = λ p low. rw joined (set_each (AreReached sets clue) starts (place + 1) p next [] (omega (arith, c.loop-place.invariant.long)) after
          (λ other. c.loop-place.invariant.reached p (omega arith)));
      none = λ p level mask later inside.
          ap (λ (s : List (List (List ℕ))). has_at (get_or s p []) level mask) joined ∙ ap (λ (levels : List (List ℕ)). has_at levels level mask) (get_or-set_other starts (place + 1) p next [] (omega arith))
          ∙ c.loop-place.invariant.none p level mask (omega arith) inside;
    }
