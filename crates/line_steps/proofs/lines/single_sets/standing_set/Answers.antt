use Rattle.std.proofs.Common.{◌≡◌, ◌≢◌, ℕ, ◌<◌, ◌^◌, ◌+◌, ◌-◌, ◌*◌, ◌%◌, ◌&&◌, ◌||◌, not, ◌==◌, if◌then◌else◌, bit_and, refl, ap, ◌∙◌, arith}
use Rattle.std.proofs.lemmas.Nat.{and_le_l}
use Rattle.number_sets.specs.Sets.{has_number}
use Rattle.line_steps.proofs.RestSets.{standing_by_rest}
use Rattle.line_steps.proofs.lines.single_sets.standing_set.Goals as goal

pub returns : goal.returns
returns c =
    let all = c.args.all in
    let left = c.args.left in
    let few = c.from_bits-if_few.result in
    let bits = c.bits-bits.result in
    let before = (bits + 65535) % 65536 in
    let rest = bit_and bits before in
    let small : left < 2 ^ 16 = omega (arith, c.bits-bits.ensures, c.bits-bits.type_inv) in
    let rest_is : left ≢ 0 → rest ≡ bit_and left (left - 1) = λ some.
    let less : before ≡ left - 1 = omega (arith, c.bits-bits.ensures, small, some) in
    ap (λ (n : ℕ). bit_and n before) c.bits-bits.ensures ∙ ap (λ (n : ℕ). bit_and left n) less in
    let none_is : left ≡ 0 → rest ≡ 0 = λ none. omega (arith, and_le_l bits before, c.bits-bits.ensures, none) in
    let few_is : few ≡ all * (if rest == 0 then 1 else 0) =
    c.from_bits-if_few.ensures ∙ c.if_none.ensures ∙ ap (λ (n : ℕ). n * (if rest == 0 then 1 else 0)) c.bits.ensures in
    let members : (v : ℕ) → has_number c.union.result v ≡ ((has_number all v && not (has_number few v)) || has_number left v) = λ v.
    c.union.ensures.members v ∙ ap (λ b. b || has_number left v) (c.difference.ensures v) in
    standing_by_rest all left rest (if rest == 0 then 1 else 0) few c.union.result small rest_is none_is refl few_is members
