use Rattle.std.proofs.Common.{◌≡◌, ◌≢◌, ℕ, ◌<◌, ◌^◌, ◌+◌, ◌-◌, ◌*◌, ◌%◌, ◌==◌, if◌then◌else◌, bit_and, refl, ap, ◌∙◌, arith}
use Rattle.line_steps.proofs.RestSets.{single_by_rest}
use Rattle.line_steps.proofs.lines.single_sets.if_single.Goals as goal

pub returns : goal.returns
returns c = λ v.
    let set = c.args.set in
    let bits = c.bits-bits.result in
    let before = (bits + 65535) % 65536 in
    let small : set < 2 ^ 16 = omega (arith, c.bits-bits.ensures, c.bits-bits.type_inv) in
    let rest : set ≢ 0 → bit_and bits before ≡ bit_and set (set - 1) = λ some.
    let less : before ≡ set - 1 = omega (arith, c.bits-bits.ensures, small, some) in
    ap (λ (n : ℕ). bit_and n before) c.bits-bits.ensures ∙ ap (λ (n : ℕ). bit_and set n) less in
    single_by_rest set (bit_and bits before) (if bit_and bits before == 0 then 1 else 0) c.from_bits.result v small rest refl
    (c.from_bits.ensures ∙ c.if_none.ensures ∙ ap (λ (n : ℕ). n * (if bit_and bits before == 0 then 1 else 0)) c.bits-bits.ensures)
