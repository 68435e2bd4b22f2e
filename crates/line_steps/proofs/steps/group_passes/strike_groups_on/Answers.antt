use Rattle.std.proofs.Common.{◌≡◌, ◌↔◌, ℕ, ◌^◌, ◌<◌, true, slice_index, count_ones, ◌∙◌, subst, arith}
use Rattle.number_sets.specs.Sets.{has_number}
use Rattle.line_steps.specs.Inner.Groups.{IsStruckBelow}
use Rattle.line_steps.proofs.GroupPasses.{IsStruckRow, group_leads, group_calm}
use Rattle.line_steps.proofs.steps.group_passes.strike_groups_on.Goals as goal

-- the row is of what groups strike
row_of : (c : goal.After-strike_row) → IsStruckRow c.args.candidates.now.size c.line_sets-sets.result c.open_places-several.result c.struck_by_groups-struck.result
row_of c =
    let width = c.get-width.ensures.value ∙ c.size.ensures.value in
    record {
      several_is = λ k.
          subst (λ (w : ℕ). (has_number c.open_places-several.result k ≡ true) ↔ ((k < w) × (1 < count_ones (slice_index c.line_sets-sets.result k)))) width
          (c.open_places-several.ensures k);
      struck = λ k v low.
          subst (λ (w : ℕ). (has_number (slice_index c.struck_by_groups-struck.result k) v ≡ true)
          ↔ IsStruckBelow c.line_sets-sets.result c.open_places-several.result (2 ^ w) k v) width
          (c.struck_by_groups-struck.ensures k v (omega (arith, low, width, c.get-width.ensures.largest)));
    }

pub returns-clause-leads : goal.returns-clause-leads
returns-clause-leads c =
    group_leads c.args.line c.line_sets-sets.result c.open_places-several.result c.struck_by_groups-struck.result c.args.candidates.now
    c.strike_row.new.candidates c.requires c.line_sets-sets.ensures (row_of c) c.strike_row.ensures.takes

pub returns-clause-quiet : goal.returns-clause-quiet
returns-clause-quiet c = λ none.
    group_calm c.args.line c.line_sets-sets.result c.open_places-several.result c.struck_by_groups-struck.result c.args.candidates.now
    c.strike_row.new.candidates c.line_sets-sets.ensures (row_of c) c.strike_row.ensures.takes (c.strike_row.ensures.changed.same none)
