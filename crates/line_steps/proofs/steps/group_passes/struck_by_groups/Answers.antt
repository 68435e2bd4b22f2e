use Rattle.std.proofs.Common.{◌≡◌, ◌↔◌, ℕ, ◌+◌, ◌⊎◌, true, false, List, slice_index, count_ones, sym, subst}
use Rattle.number_sets.specs.Sets.{has_number, IsSubset}
use Rattle.line_steps.specs.Inner.Groups.{IsUnionOf, IsStruckBelow}
use Rattle.line_steps.proofs.GroupPasses.{struck_on, struck_past}
use Rattle.line_steps.proofs.steps.group_passes.struck_by_groups.Goals as goal
use Rattle.line_steps.proofs.steps.group_passes.struck_by_groups.Goals.{then-is_subset, else-is_subset}

pub loop-bits-preserved : goal.loop-bits-preserved
loop-bits-preserved c = λ k v low.
    let sets = c.args.sets.now in
    let several = c.args.several in
    let bits = c.loop-bits.bits in
    let was = has_number (slice_index c.loop-bits.struck k) v in
    let is = c.from_bits-squares.ensures in
    elim c.if-is_subset.branch [
      | then-is_subset w ↦
          let values = w.values_of.result in
          let now = has_number (slice_index c.if-is_subset.struck k) v in
          let row = subst (λ (row : List ℕ). (has_number (slice_index row k) v ≡ true)
          ↔ ((was ≡ true) ⊎ ((count_ones values ≡ count_ones c.from_bits-squares.result) × (has_number c.from_bits-squares.result k ≡ false)
          × (has_number values v ≡ true)))) (sym w.struck-is) (w.add_elsewhere.ensures k v low) in
          struck_on sets several bits values k v was now (subst (λ (n : ℕ). IsSubset n several) is w.if-is_subset.ensures)
          (subst (λ (n : ℕ). IsUnionOf sets n values) is w.values_of.ensures) (c.loop-bits.invariant k v low)
          (subst (λ (n : ℕ). (now ≡ true) ↔ ((was ≡ true) ⊎ ((count_ones values ≡ count_ones n) × (has_number n k ≡ false) × (has_number values v ≡ true)))) is row)
      | else-is_subset w ↦
          subst (λ (row : List ℕ). (has_number (slice_index row k) v ≡ true) ↔ IsStruckBelow sets several (bits + 1) k v) (sym w.struck-is)
          (struck_past sets several bits k v was (λ sub. w.if-is_subset.ensures (subst (λ (n : ℕ). IsSubset n several) (sym is) sub)) (c.loop-bits.invariant k v low))
    ]
