use Rattle.std.proofs.Common.{◌≡◌, ℕ, ◌≤◌, ◌&&◌, nat_le, sym, ap, ◌∙◌, subst, arith}
use Rattle.number_sets.specs.Sets.{has_number}
use Rattle.towers_game.specs.Rows.{May, AreMaySets}
use Rattle.towers_game.specs.Inner.RowSets.{AreFull}
use Rattle.towers_game.specs.declared.towers.clue_rows.Look.{Look}
use Rattle.towers_game.proofs.StandingSets.{full_may, standing_may}
use Rattle.towers_game.proofs.towers.clue_rows.may_row.Goals as goal

pub returns-in-Alone : goal.returns-in-Alone
returns-in-Alone c = λ d place size inside are.
    let all = c.up_to-all.result in
    let members : (v : ℕ) → has_number all v ≡ (nat_le 1 v && nat_le v d.size) = λ v.
    c.up_to-all.ensures.members v ∙ ap (λ (w : ℕ). nat_le 1 v && nat_le v w) (sym size) in
    let full = subst (λ (w : ℕ). AreFull all w c.full_row.result) (sym size) c.full_row.ensures in
    subst (λ (look : Look). AreMaySets d.size (May look d) place d.size c.full_row.result) (sym c.in-Alone.is)
    (full_may d place all c.full_row.result inside members full)

pub returns-in-Stands : goal.returns-in-Stands
returns-in-Stands c = λ d place size inside are.
    let all = c.up_to-all.result in
    let members : (v : ℕ) → has_number all v ≡ (nat_le 1 v && nat_le v d.size) = λ v.
    c.up_to-all.ensures.members v ∙ ap (λ (w : ℕ). nat_le 1 v && nat_le v w) (sym size) in
    let small : d.size ≤ 9 = omega (arith, size, c.requires) in
    subst (λ (look : Look). AreMaySets d.size (May look d) place d.size c.standing_row.result) (sym c.in-Stands.is)
    (standing_may d place all c.args.left.now c.standing_row.result small inside members are c.standing_row.ensures)
