use Rattle.tower_lines.proofs.MaskSetLemmas.{start_has}
use Rattle.tower_lines.proofs.mask_sets.MaskSet.start.Goals as goal

pub returns : goal.returns
returns g c = λ m. start_has g.row.W m c.requires
