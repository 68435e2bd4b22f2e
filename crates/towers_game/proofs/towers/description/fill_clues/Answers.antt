-- One more field: the clue that was read is the field's, and stands at its place.
use Rattle.std.proofs.Common.{◌≡◌, ◌∙◌, ℕ, List, Option, Some, option_map, sym, subst, arith, refl}
use Rattle.std.proofs.lemmas.Option.{cond_some}
use Rattle.towers_game.specs.TowersText.{is_clue_field, clue_in}
use Rattle.towers_game.proofs.CluePartLemmas.{FillsClues, fields_step, fills_step}
use Rattle.towers_game.proofs.towers.description.fill_clues.Goals as goal

pub loop-rest-preserved : goal.loop-rest-preserved
loop-rest-preserved c =
    let w = c.args.size in
    let front = c.cut.result.0.now in
    let left : option_map (λ r. r.now) c.loop-rest.rest ≡ Some c.in-Some.fields.now = rw c.in-Some.is refl in
    let read =
    cond_some (is_clue_field w front) (clue_in front) c.in_ok-clues.field-0 (sym c.read_clue.ensures ∙ c.in_ok-clues.ensures.ok_part) in
    let now =
    subst (λ (r : Option (List ℕ)). FillsClues w c.args.part.now r c.loop-rest.place c.loop-rest.clues) left c.loop-rest.invariant in
    let step = fields_step c.in-Some.fields.now front (option_map (λ r. r.now) c.cut.result.1) c.cut.ensures.front c.cut.ensures.rest in
    rw (← read.1) (fills_step w c.args.part.now c.in-Some.fields.now front (option_map (λ r. r.now) c.cut.result.1) c.loop-rest.place c.loop-rest.clues now step read.0 (omega arith))
