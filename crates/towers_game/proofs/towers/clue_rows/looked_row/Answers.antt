use Rattle.std.proofs.Common.{sym, ◌∙◌}
use Rattle.towers_game.proofs.towers.clue_rows.looked_row.Goals as goal

pub returns : goal.returns
returns c = c.may_row.ensures c.args.candidates.now c.args.place (sym (c.get-width.ensures.value ∙ c.size.ensures.value)) c.requires c.left_row.ensures
