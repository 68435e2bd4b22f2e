use Rattle.std.proofs.Common.{◌≡◌, ℕ, ◌≤◌, nat_le, ◌&&◌, subst, ◌∙◌}
use Rattle.number_sets.specs.Sets.{has_number}
use Rattle.unequal_game.proofs.SignSets.{bounds_struck}
use Rattle.unequal_game.proofs.unequal.sign_strikes.by_greater.Goals as goal

pub returns : goal.returns
returns c = λ v.
    let Members : ℕ → Type 0 = λ n. (j : ℕ) → has_number c.up_to.result j ≡ (nat_le 1 j && nat_le j n) in
    let members : Members c.args.candidates.now.size = subst Members (c.get.ensures.value ∙ c.size-size.ensures.value) c.up_to.ensures.members in
    bounds_struck c.args.candidates.now c.args.from c.values.result c.from_greatest.result c.up_to.result c.intersection.result v (λ u. u ≤ v)
    c.size-size.ensures.valid.largest c.values.ensures members (c.from_greatest.ensures v) c.intersection.ensures.members
