use Rattle.tower_lines.proofs.MaskSetLemmas.{without_last_has}
use Rattle.tower_lines.proofs.mask_sets.MaskSet.without_last.Goals as goal

pub returns : goal.returns
returns g c = λ m. rw (← c.self.view_is) (without_last_has c.self.inside.words g.row.W m c.requires c.self.told)
