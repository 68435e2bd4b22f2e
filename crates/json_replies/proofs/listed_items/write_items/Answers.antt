use Rattle.std.proofs.Common.{◌∷◌, [], List, Bool, refl, subst}
use Rattle.json_replies.specs.ListedItems.{items_data, listed_by}
use Rattle.json_replies.specs.WrittenData.{Follow}
use Rattle.json_replies.proofs.listed_items.write_items.Goals as goal

pub returns : goal.returns
returns g c =
    let p = c.args.puzzle.now in
    let told = λ (l : List Bool). items_data g.P.Items (g.P.StepNames.says_greater_of p) (g.P.Rules.puzzle p).size (listed_by l) in
    let list = c.in_ok-listed.listed.items in (
      told list,
      (listed_by list, c.in_ok-listed.ensures.listed, refl),
      subst (λ (l : List Bool). Follow (told l ∷ []) c.args.writer.now c.write_listed.new.writer) c.as_slice.ensures.value
          c.in_ok-write_listed.ensures,
    )
