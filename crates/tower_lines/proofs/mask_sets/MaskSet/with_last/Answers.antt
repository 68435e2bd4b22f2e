use Rattle.tower_lines.proofs.MaskSetLemmas.{with_last_has}
use Rattle.tower_lines.proofs.mask_sets.MaskSet.with_last.Goals as goal

pub returns : goal.returns
returns g c = λ m. rw (← c.self.view_is) (with_last_has c.self.inside.words g.row.W m c.requires c.self.told)
