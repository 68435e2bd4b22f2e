-- One place after another, from the last, has the starts that a filling begins with, and its values.
use Rattle.std.proofs.Common.{◌≡◌, ℕ, ◌+◌, ◌-◌, ◌<◌, ◌↔◌, inl, inr, true, false, not, List, [], length, get_or, replicate, ap, sym, ◌∙◌, arith, rules, length-set}
use Rattle.std.proofs.lemmas.Bool.{cases_lt, both_ways, false≢true}
use Rattle.std.proofs.lemmas.List.{get_or-replicate, get_or_default, get_or_past, length-replicate}
use Rattle.std.proofs.lemmas.Grind.{get_or_default_zero}
use Rattle.number_sets.specs.Sets.{has_number}
use Rattle.number_sets.proofs.Members.{has_number-none}
use Rattle.tower_lines.specs.LineFillings.{IsSupported}
use Rattle.tower_lines.specs.Inner.Levels.{AreContinued}
use Rattle.tower_lines.proofs.MaskSetLemmas.{not_empty}
use Rattle.tower_lines.proofs.LevelTables.{reached_few, reached_filling, last_continued, before_continued, kept_supported, set_each}
use Rattle.tower_lines.proofs.line_fillings.supported_by.Goals as goal

-- an empty table has no value
none_kept : (kept : List ℕ) → kept ≡ replicate 9 0 → (place value : ℕ) → has_number (get_or kept place 0) value ≡ false
none_kept kept is place value =
    let none : get_or (replicate 9 0) place 0 ≡ 0 = elim (cases_lt place 9) [
      | inl inside ↦ get_or-replicate 9 place 0 0 inside
      | inr past ↦ get_or_past (replicate 9 0) place 0 (omega (arith, length-replicate {A = ℕ} 9 0))
    ] in
    ap (λ (k : List ℕ). has_number (get_or k place 0) value) is ∙ ap (λ (n : ℕ). has_number n value) none ∙ has_number-none value

-- where the last level of the whole starts is empty, no value is in a filling
pub returns-then-is_empty : goal.returns-then-is_empty
returns-then-is_empty g c =
    let sets = c.args.sets.now in
    let whole = get_or c.add_starts.new.starts (length sets) [] in
    let same : get_or whole c.args.clue c.index-whole-clue.result ≡ get_or whole c.args.clue [] =
    get_or_default whole c.args.clue c.index-whole-clue.result [] (search rules) in
    let some = not_empty (get_or whole c.args.clue []) c.is_empty.result (rw (← same) c.is_empty.ensures) in
    let fillings = reached_filling {sets = sets} {clue = c.args.clue} whole c.requires.some (c.add_starts.ensures (length sets) (search rules)) in
    λ place value. (
      λ e. absurd (both_ways (has_number (get_or c.no_values.result place 0) value) (none_kept c.no_values.result c.no_values.ensures place value) e),
      λ s. absurd (false≢true (sym (ap not c.if-is_empty.true) ∙ some.1 (fillings.1 (s.line, s.filling)))),
    )

pub loop-place-init : goal.loop-place-init
loop-place-init g c =
    let sets = c.args.sets.now in
    let kept = c.no_values-kept.result in
    record {
      long = ap (λ (k : List ℕ). length k) c.no_values-kept.ensures;
      inside = omega arith;
      continued = last_continued c.requires.some (c.add_starts.ensures (length sets) (omega arith));
      done = λ place value past. (
        λ e. absurd (both_ways (has_number (get_or kept place 0) value) (none_kept kept c.no_values-kept.ensures place value) e),
        λ s. absurd (let within = s.inside in omega arith),
      );
    }

pub pass_back-requires : goal.pass_back-requires
pass_back-requires g c =
    let at = c.loop-place.place - 1 in
    let few = reached_few (get_or c.add_starts.new.starts at []) (c.add_starts.ensures at (omega arith)) in
    (search rules, (search rules, (omega (arith, c.loop-place.invariant.inside), (c.requires.room, (c.requires.clue, (c.requires.small, few))))))

pub loop-place-preserved : goal.loop-place-preserved
loop-place-preserved g c =
    let sets = c.args.sets.now in
    let clue = c.args.clue in
    let kept = c.loop-place.kept in
    let at = c.loop-place.place - 1 in
    let levels = get_or c.add_starts.new.starts at [] in
    let after = c.loop-place.after in
    let inside : at < length sets = omega (arith, c.loop-place.invariant.inside) in
    let next : c.loop-place.place ≡ at + 1 = omega arith in
    let reached = c.add_starts.ensures at (omega arith) in
    let values : c.index-sets-place.result ≡ get_or sets at 0 = c.index-sets-place.is ∙ get_or_default_zero sets at c.index-sets-place.result inside in
    let continued : AreContinued sets clue (at + 1) after = rw (← next) c.loop-place.invariant.continued in
    let passed = rw values at c.pass_back.ensures.before in
    let kept_here = rw values at c.pass_back.ensures.kept in
    let long : at < length kept = omega (arith, c.loop-place.invariant.long) in
    record {
      long = length-set kept at c.pass_back.result ∙ c.loop-place.invariant.long;
      inside = omega arith;
      continued = before_continued inside reached continued passed;
      done = λ place value from.
          let supported = kept_supported inside reached continued value in
          let by = kept_here value in
          set_each (λ p n. (has_number n value ≡ true) ↔ IsSupported sets clue p value) kept at place c.pass_back.result 0 long
          (λ e. supported.0 (by.0 e), λ s. by.1 (supported.1 s)) (λ other. c.loop-place.invariant.done place value (omega arith));
    }
