use Rattle.std.proofs.Common.{◌≡◌, ℕ, ◌<◌, get_or, set, length, bit_xor, subst, sym, ap, ◌∙◌, arith}
use Rattle.std.proofs.lemmas.Grind.{get_or_default_zero}
use Rattle.trail_solver.specs.Inner.Fields.{FlipsSet}
use Rattle.trail_solver.proofs.FlippedSets.{flips_set}
use Rattle.trail_solver.proofs.candidates.flip.Goals as goal

pub returns : goal.returns
returns c =
    let inside : c.args.cell < length c.args.sets.now = omega arith in
    let here = get_or_default_zero c.args.sets.now c.args.cell c.index-sets-cell.result inside in
    let bits : c.from_bits.result ≡ bit_xor (get_or c.args.sets.now c.args.cell 0) c.args.values =
    c.from_bits.ensures
    ∙ ap (λ (m : ℕ). bit_xor m c.bits-2.result) (c.bits.ensures ∙ here)
    ∙ ap (λ (m : ℕ). bit_xor (get_or c.args.sets.now c.args.cell 0) m) c.bits-2.ensures in
    let P : ℕ → Type 0 = λ m. FlipsSet c.args.sets.now (set c.args.sets.now c.args.cell m) c.args.cell c.args.values in
    subst P (sym bits) (flips_set c.args.sets.now c.args.cell c.args.values inside)
