-- The starts that have as many values as their line has squares.
use Rattle.std.proofs.Common.{◌≡◌, ℕ, ◌+◌, ◌-◌, ◌^◌, ◌<◌, inl, inr, List, length, refl, sym, ◌∙◌, arith}
use Rattle.std.proofs.lemmas.Bool.{cases_lt, lt-ltb, le-ltb, true_from_ne_false}
use Rattle.std.proofs.lemmas.Nat.{ones-le}
use Rattle.number_sets.specs.Sets.{has_number}
use Rattle.number_sets.proofs.Members.{has_number-above, has_number-below}
use Rattle.number_sets.proofs.OneMore.{added_with, added_ones, added_below}
use Rattle.tower_lines.specs.LineFillings.{IsStart}
use Rattle.tower_lines.specs.Inner.LineMasks.{IsMask}
use Rattle.tower_lines.proofs.MaskLemmas.{mask_of}

-- a start with as many values as the line has squares has each value, so its mask has all bits up to there
pub whole_mask : {sets : List ℕ} (p : List ℕ) → IsStart sets p → length p ≡ length sets → IsMask (2 ^ length sets - 1) p
whole_mask {sets} p start whole =
    let w = length sets in
    let b = mask_of p start in
    let full = λ (k : ℕ) (low : k < w). true_from_ne_false (has_number b.mask k) (λ fresh.
    let a = added_with b.mask k (b.mask + 2 ^ k) fresh refl in
    absurd (omega (arith, added_ones a, b.ones, ones-le w (b.mask + 2 ^ k) (added_below a w b.small low)))) in
    record {
      bits = λ k. has_number-below w k ∙ elim (cases_lt k w) [
        | inl low ↦ lt-ltb k w low ∙ sym (full k low)
        | inr high ↦ le-ltb k w high ∙ sym (has_number-above b.mask w k b.small high)
      ] ∙ b.used.bits k;
    }
